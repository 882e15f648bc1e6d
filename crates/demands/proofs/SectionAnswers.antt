-- Demand 1 for a section (SPEC 15.8, 15.9): its number and place are those of the tables, all members move or none does, each that moves is
-- where a lone rod is, and force and moment are those of the members as they stand then.
use Prim.Native.Nat.{ℕ, ◌+◌, ◌*◌, ◌≤◌}
use mathlib.Core.Path.{◌≡◌, refl, sym, ap, subst, ◌∙◌}
use mathlib.Core.List.{List, [], ◌∷◌, ◌++◌, map}
use mathlib.Core.Bool.{true, not}
use mathlib.Core.Logic.{◌⊎◌, inl, inr}
use native.Mathlib.Omega.{arith}
use borrow.Author.Tests.{eq-eqb}
use lib.IntN.{nat_abs, ◌+ℤ◌}
use lib.ListN.{length}
use Rattle.refusals.specs.Table.{Refusal, refusal, Answer, passes, refused, first_of, NoneApplies, Given, Decided}
use Rattle.refusals.proofs.FirstLaws.{Numbered, none_passes, passes_none_applies, given_refused, refused_given, both_pass, decides, number_stands}
use Rattle.sheet.specs.declared.Sheet.{Sheet}
use Rattle.sheet.specs.Sheets.{sheet_of, sheet_refusals, sheet_field_refusals}
use Rattle.sheet.specs.Sound.{SheetSound}
use Rattle.sheet.proofs.Passed.{passed_sound}
use Rattle.ranges.specs.Ranges.{most_rods}
use Rattle.pair.specs.Pairs.{pair_in_range}
use Rattle.rod.specs.declared.Rod.{Rod}
use Rattle.rod.specs.declared.step.Advance.{Advance}
use Rattle.rod.specs.Against.{against_refusals}
use Rattle.rod.specs.Steps.{advance_of, step_refusals}
use Rattle.state.specs.States.{state_of, state_length, state_refusals, state_field_refusals}
use Rattle.state.proofs.RoundTrip.{rod_back}
use Rattle.section.specs.declared.Member.{Member}
use Rattle.section.specs.declared.Change.{Change}
use Rattle.section.specs.Sections.{section_refusals, member_pair, member_table, member_answer, force_of, moment_of, most_force, most_moment, Move, Moves, all, stopped, moves_from, sum, SectionLeft, turned_away, moved, settled, section_by, section_leaves}
use Rattle.section.proofs.MemberLaws.{member_passed}
use Rattle.section.proofs.MovesLaws.{Pass, moves_of, pass_move, one_stops, all_pass, one_stopped}
use Rattle.section.proofs.SectionBounds.{section_right, few_members, sums_most}
use Rattle.section.proofs.Numbers.{lines_numbered, member_numbered}
use Rattle.tie_rod.specs.Calls.{call_leaves}
use Rattle.demands.specs.Sections.{Each, EachAfter, lone_call, force_now, moment_now, MovedAlone, BySection, ByMember, SectionReason, SectionAnswered}
use Rattle.demands.proofs.LoneRods.{lone_number, lone_next, lone_refused}

module _ (sheet : List ℕ) (c : Change) (ms : List Member) where
  abbrev h : Sheet
  h = sheet_of sheet

  abbrev lines : List Refusal
  lines = section_refusals sheet c ms

  -- ---- The three ways

  pub when_section : {n : ℕ} → Given lines n → section_leaves sheet c ms ≡ turned_away n 0 ms
  unfolding section_leaves
  when_section g = ap (λ (q : Answer Sheet). section_by q c ms) (given_refused lines h g)

  pub when_moves : {v : Moves} → NoneApplies lines → moves_from h c 1 ms ≡ v → section_leaves sheet c ms ≡ settled v ms
  unfolding section_leaves
  when_moves none e = ap (λ (q : Answer Sheet). section_by q c ms) (none_passes lines h none) ∙ ap (λ (v : Moves). settled v ms) e

  section_numbered : {n : ℕ} → Given lines n → Numbered n
  unfolding section_refusals
  section_numbered g = lines_numbered sheet _ h (given_refused lines h g)

  -- Members that pass, by their tables and by their answers.
  each_pass : (l : List Member) → Each (λ (m : Member). NoneApplies (member_table h c m)) l → (advances : List Advance) × Pass h c l advances
  unfolding member_answer
  each_pass [] none = ([], tt)
  each_pass (m ∷ l) (none, rest) =
      let a = advance_of h (state_of m.state) (member_pair c m) in
      let (advances, pass) = each_pass l rest in
      (a ∷ advances, (none_passes (member_table h c m) a none, pass))

  pass_each : (l : List Member) (advances : List Advance) → Pass h c l advances → Each (λ (m : Member). NoneApplies (member_table h c m)) l
  unfolding member_answer
  pass_each [] advances pass = tt
  pass_each (m ∷ l) [] pass = absurd pass
  pass_each (m ∷ l) (a ∷ advances) (e, pass) =
      (passes_none_applies (member_table h c m) (advance_of h (state_of m.state) (member_pair c m)) e, pass_each l advances pass)

  pub sheet_passes : NoneApplies lines → (first_of (sheet_refusals sheet) h ≡ passes h) × SheetSound h
  unfolding section_refusals
  sheet_passes none =
      let passed = (both_pass (sheet_refusals sheet) _ h h (none_passes lines h none)).0 in
      (passed, (passed_sound sheet passed).1)

  -- A refused member's own answer, and what the members come to by it.
  member_refuses : {n p : ℕ} (by : ByMember sheet c ms n p) → member_answer h c by.member ≡ refused n
  unfolding member_answer
  member_refuses by = given_refused (member_table h c by.member) (advance_of h (state_of by.member.state) (member_pair c by.member)) by.given

  member_stops : {n p : ℕ} (by : ByMember sheet c ms n p) → moves_from h c 1 ms ≡ stopped n (1 + length by.before)
  member_stops by =
      let (advances, pass) = each_pass by.before by.none_before in
      ap (moves_from h c 1) by.in_order ∙ one_stops h c 1 by.before advances by.member by.behind pass (member_refuses by)

  -- ---- Number and place

  abbrev Told : (l : SectionLeft) (number place : ℕ) → Type 0
  Told l number place = (l.reply.number ≡ number) × (l.reply.place ≡ place)

  abbrev Reasons : (number place : ℕ) → Type 0
  Reasons number place = SectionReason sheet c ms number place

  reason_told : (number place : ℕ) → Reasons number place → Told (section_leaves sheet c ms) number place
  reason_told number place (inl by) =
      subst (λ (l : SectionLeft). Told l number place) (sym (when_section by.given)) (refl, sym by.nowhere)
  reason_told number place (inr (inl by)) =
      subst (λ (l : SectionLeft). Told l number place) (sym (when_moves by.own (member_stops by))) (refl, omega (arith, by.at))
  reason_told number place (inr (inr by)) =
      let (advances, pass) = each_pass ms by.all_pass in
      subst (λ (l : SectionLeft). Told l number place) (sym (when_moves by.own (pass_move h c 1 ms advances pass))) (sym by.no_number, sym by.nowhere)

  -- A section goes one of three ways.
  record StopsAt : Type 0 where
    none : NoneApplies lines
    number : ℕ
    place : ℕ
    stops : moves_from h c 1 ms ≡ stopped number place

  record AllMove : Type 0 where
    none : NoneApplies lines
    advances : List Advance
    pass : Pass h c ms advances

  ways : ((n : ℕ) × Given lines n) ⊎ (StopsAt ⊎ AllMove)
  ways = by_lines (decides lines)
    where
      by_moves : NoneApplies lines → (v : Moves) → moves_from h c 1 ms ≡ v → ((n : ℕ) × Given lines n) ⊎ (StopsAt ⊎ AllMove)
      by_moves none (all vs) e = let p = all_pass h c 1 ms e in inr (inr (record { none = none; advances = p.advances; pass = p.pass }))
      by_moves none (stopped n p) e = inr (inl (record { none = none; number = n; place = p; stops = e }))

      by_lines : Decided lines → ((n : ℕ) × Given lines n) ⊎ (StopsAt ⊎ AllMove)
      by_lines (inl g) = inl g
      by_lines (inr none) = by_moves none (moves_from h c 1 ms) refl

  stops_leaves : (x : StopsAt) → section_leaves sheet c ms ≡ turned_away x.number x.place ms
  stops_leaves x = when_moves x.none x.stops

  pub all_leaves : (advances : List Advance) → NoneApplies lines → Pass h c ms advances → section_leaves sheet c ms ≡ moved (moves_of h c ms advances)
  all_leaves advances none pass = when_moves none (pass_move h c 1 ms advances pass)

  told_reason : (number place : ℕ) → Told (section_leaves sheet c ms) number place → Reasons number place
  unfolding member_answer
  told_reason number place told = by_way ways
    where
      by_way : ((n : ℕ) × Given lines n) ⊎ (StopsAt ⊎ AllMove) → Reasons number place
      by_way (inl (n, g)) =
          let (is, at) = subst (λ (l : SectionLeft). Told l number place) (when_section g) told in
          inl (record { given = subst (Given lines) is g; nowhere = sym at })
      by_way (inr (inl x)) =
          let (is, at) = subst (λ (l : SectionLeft). Told l number place) (stops_leaves x) told in
          let one = one_stopped h c 1 ms x.stops in
          let given = refused_given (member_table h c one.member) (advance_of h (state_of one.member.state) (member_pair c one.member)) one.refuses in
          inr (inl (record {
            own = x.none;
            before = one.before;
            member = one.member;
            behind = one.behind;
            in_order = one.in_order;
            none_before = pass_each one.before one.advances one.pass;
            given = subst (Given (member_table h c one.member)) is given;
            at = omega (arith, one.at, at);
          }))
      by_way (inr (inr x)) =
          let (is, at) = subst (λ (l : SectionLeft). Told l number place) (all_leaves x.advances x.none x.pass) told in
          inr (inr (record { own = x.none; all_pass = pass_each ms x.advances x.pass; no_number = sym is; nowhere = sym at }))

  -- ---- All or none

  abbrev number : ℕ
  number = (section_leaves sheet c ms).reply.number

  -- Beside a number all is as it was.
  turned : (n p : ℕ) → BySection sheet c ms n p ⊎ ByMember sheet c ms n p → section_leaves sheet c ms ≡ turned_away n p ms
  unfolding member_answer
  turned n p (inl by) = when_section by.given ∙ ap (λ (q : ℕ). turned_away n q ms) (sym by.nowhere)
  turned n p (inr by) =
      let at : 1 + length by.before ≡ p = omega (arith, by.at) in
      when_moves by.own (member_stops by) ∙ ap (λ (q : ℕ). turned_away n q ms) at

  pub kept_beside : (number ≡ 0 → ⊥) → (section_leaves sheet c ms).members ≡ ms
  kept_beside some = by_way ways
    where
      by_way : ((n : ℕ) × Given lines n) ⊎ (StopsAt ⊎ AllMove) → (section_leaves sheet c ms).members ≡ ms
      by_way (inl (n, g)) = ap (λ (l : SectionLeft). l.members) (when_section g)
      by_way (inr (inl x)) = ap (λ (l : SectionLeft). l.members) (stops_leaves x)
      by_way (inr (inr x)) = absurd (some (ap (λ (l : SectionLeft). l.reply.number) (all_leaves x.advances x.none x.pass)))

  alone : (n p : ℕ) (by : ByMember sheet c ms n p) → pair_in_range (member_pair c by.member) ≡ true
      → (call_leaves sheet by.member.state (lone_call c by.member)).reply.number ≡ n
  alone n p by right = let (passed, sound) = sheet_passes by.own in lone_refused sheet passed sound c by.member (member_refuses by) right

  -- What holds of members that all passed holds where there is no number.
  pub without_number : (P : SectionLeft → Type 0) → ((advances : List Advance) → NoneApplies lines → Pass h c ms advances → P (moved (moves_of h c ms advances)))
      → number ≡ 0 → P (section_leaves sheet c ms)
  without_number P moving none = by_way ways
    where
      by_way : ((n : ℕ) × Given lines n) ⊎ (StopsAt ⊎ AllMove) → P (section_leaves sheet c ms)
      by_way (inl (n, g)) = absurd ((section_numbered g).0 (sym (ap (λ (l : SectionLeft). l.reply.number) (when_section g)) ∙ none))
      by_way (inr (inl x)) =
          let one = one_stopped h c 1 ms x.stops in
          absurd ((member_numbered h c one.member one.refuses).0 (sym (ap (λ (l : SectionLeft). l.reply.number) (stops_leaves x)) ∙ none))
      by_way (inr (inr x)) = subst P (sym (all_leaves x.advances x.none x.pass)) (moving x.advances x.none x.pass)

  moved_alone : first_of (sheet_refusals sheet) h ≡ passes h → SheetSound h → (l : List Member) (advances : List Advance) → Pass h c l advances
      → EachAfter (MovedAlone sheet c) l (map (λ (v : Move). v.to) (moves_of h c l advances))
  moved_alone passed sound [] advances pass = tt
  moved_alone passed sound (m ∷ l) [] pass = absurd pass
  moved_alone passed sound (m ∷ l) (a ∷ advances) (e, pass) =
      (record { accepted = lone_number sheet passed sound c m e; state = sym (lone_next sheet passed sound c m e); area = refl; offset = refl }, moved_alone passed sound l advances pass)

  -- Force and moment are those of the members as they stand afterwards, since their states hold the stresses.
  sums_now : SheetSound h → (l : List Member) (advances : List Advance) → Pass h c l advances
      → let moves = moves_of h c l advances in let after = map (λ (v : Move). v.to) moves in
      (sum (map (λ (v : Move). v.force) moves) ≡ force_now after) × (sum (map (λ (v : Move). v.moment) moves) ≡ moment_now after)
  unfolding sum
  sums_now sound [] advances pass = (refl, refl)
  sums_now sound (m ∷ l) [] pass = absurd pass
  sums_now sound (m ∷ l) (a ∷ advances) (e, pass) =
      let back = ap (λ (r : Rod). r.stress.0) (sym (rod_back a.rod (member_passed h c m sound e).next.fits)) in
      let (forces, moments) = sums_now sound l advances pass in
      ((λ i. force_of m (back i) +ℤ forces i), (λ i. moment_of m (back i) +ℤ moments i))

  -- Both are small: 0, or the sums over at most 32 members.
  sums_fit : (nat_abs (section_leaves sheet c ms).reply.force ≤ most_rods * most_force) × (nat_abs (section_leaves sheet c ms).reply.moment ≤ most_rods * most_moment)
  sums_fit = by_way ways
    where
      Small : SectionLeft → Type 0
      Small l = (nat_abs l.reply.force ≤ most_rods * most_force) × (nat_abs l.reply.moment ≤ most_rods * most_moment)

      by_way : ((n : ℕ) × Given lines n) ⊎ (StopsAt ⊎ AllMove) → Small (section_leaves sheet c ms)
      by_way (inl (n, g)) = subst Small (sym (when_section g)) (omega arith, omega arith)
      by_way (inr (inl x)) = subst Small (sym (stops_leaves x)) (omega arith, omega arith)
      by_way (inr (inr x)) =
          let passed = none_passes lines h x.none in
          let few = few_members sheet c ms passed in
          let (forces, moments) = sums_most h c ms x.advances (sheet_passes x.none).1 (section_right sheet c ms passed).1 x.pass in
          subst Small (sym (all_leaves x.advances x.none x.pass)) (omega (arith, forces, few), omega (arith, moments, few))

  -- 4 can't be a member's number.
  no_four : (m : Member) → length m.state ≡ state_length → Given (member_table h c m) 4 → ⊥
  unfolding member_table state_refusals state_field_refusals against_refusals step_refusals first_of
  no_four m long g =
      let v = advance_of h (state_of m.state) (member_pair c m) in
      let behind = (state_field_refusals m.state ++ against_refusals h (state_of m.state)) ++ (refusal 8 (not (pair_in_range (member_pair c m))) ∷ step_refusals h (state_of m.state) (member_pair c m)) in
      let e : first_of behind v ≡ refused 4 = rw (eq-eqb (length m.state) state_length long) at (given_refused (member_table h c m) v g) in
      number_stands (λ (n : ℕ). n ≡ 4 → ⊥) behind v
      ((λ z. omega (arith, z)), ((λ z. omega (arith, z)), ((λ z. omega (arith, z)), ((λ z. omega (arith, z)), ((λ z. omega (arith, z)), tt))))) e refl

  pub section_answered : SectionAnswered sheet c ms
  unfolding section_refusals sheet_refusals sheet_field_refusals member_table state_refusals state_field_refusals against_refusals step_refusals
  section_answered =
      record {
        order = refl;
        member_order = λ m. refl;
        exactly = λ number place. (told_reason number place, reason_told number place);
        is_turned_away = turned;
        refused_alone = alone;
        all_move = without_number (λ (l : SectionLeft). EachAfter (MovedAlone sheet c) ms l.members)
            (λ advances none pass. let (passed, sound) = sheet_passes none in moved_alone passed sound ms advances pass);
        force = without_number (λ (l : SectionLeft). l.reply.force ≡ force_now l.members) (λ advances none pass. (sums_now (sheet_passes none).1 ms advances pass).0);
        moment = without_number (λ (l : SectionLeft). l.reply.moment ≡ moment_now l.members) (λ advances none pass. (sums_now (sheet_passes none).1 ms advances pass).1);
        force_most = sums_fit.0;
        moment_most = sums_fit.1;
        no_4 = no_four;
      }
