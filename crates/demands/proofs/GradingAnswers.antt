-- Demand 1 for gradings (SPEC 17.7): a verdict is what the run of the same pairs and the bytes of its rows say. Where the run is refused
-- its number and place are the verdict's; else 16 and 17 decide, and then the first row that isn't within the tolerance.
use Prim.Native.Nat.{ℕ, ◌+◌, ◌*◌}
use mathlib.Core.Path.{◌≡◌, refl, sym, ap, subst, ◌∙◌}
use mathlib.Core.Bool.{Bool, true, false}
use mathlib.Core.List.{List, [], ◌∷◌}
use mathlib.Core.Logic.{◌⊎◌, inl, inr}
use native.Mathlib.Omega.{arith}
use borrow.Author.Tests.{eqb-true, eqb-false, eq-eqb}
use lib.Dec.{T, eqb}
use lib.Signed.{le_z_yes}
use lib.ListN.{length, length-replicate}
use Rattle.refusals.specs.Table.{refused, first_of, NoneApplies, Given, numbers_of}
use Rattle.refusals.proofs.FirstLaws.{none_passes, none_join, given_refused, refused_given, stops_first, decides}
use Rattle.pair.specs.Pairs.{list_refusals}
use Rattle.row.specs.Rows.{row_length}
use Rattle.sheet.specs.declared.Sheet.{Sheet}
use Rattle.sheet.specs.Sheets.{sheet_of}
use Rattle.rod.specs.declared.Rod.{Rod}
use Rattle.state.specs.States.{state_of, state_length, zero_state}
use Rattle.carry.specs.Walk.{Walk, rows_of, walk}
use Rattle.carry.proofs.Walks.{walk_all}
use Rattle.judge.specs.Standing.{ready_of, standing_refusals}
use Rattle.tie_rod.specs.Calls.{run, Call, count_in, pairs_in, buffer_refusals, length_refusals, call_refusals, Left, call_leaves, place_of, stopped}
use Rattle.grade.specs.Grades.{Grading, stress_at, agrees, first_outside, Verdict, verdict, grading_refusals, verdict_by, verdict_on, grade_of}
use Rattle.grade.proofs.GradeLaws.{standing_stops, list_stops, list_walked, walked_refused, walked_last}
use Rattle.grade.proofs.OutsideLaws.{first_where, AllNear, OneOutside, none_outside, first_is_outside, near_or_outside, first_in_bytes}
use Rattle.demands.specs.Lists.{accepted_in}
use Rattle.demands.specs.Gradings.{own_run, Agrees, GradeReason, GradingAnswered}
use Rattle.demands.proofs.Demand1.{when_standing, when_call, when_walked, standing_number, call_number}
use Rattle.demands.proofs.Accepted.{roomy, upto}

module _ (sheet state : List ℕ) (g : Grading) where
  abbrev h : Sheet
  h = sheet_of sheet

  abbrev r : Rod
  r = state_of state

  abbrev c : Call
  c = own_run g

  abbrev count : ℕ
  count = count_in g.pairs

  abbrev leaves : Left
  leaves = call_leaves sheet state c

  abbrev walked : Walk
  walked = walk h r (pairs_in g.pairs)

  -- ---- The run

  no_12 : NoneApplies (buffer_refusals count (length c.rows) (length c.next))
  no_12 = roomy count (length c.rows) (length c.next) (length-replicate {A = ℕ} (row_length * count) 0) (length-replicate {A = ℕ} state_length 0)

  -- The list decides of it before its pairs.
  list_gives : {n : ℕ} → Given (list_refusals (length g.pairs)) n → Given (call_refusals c) n
  unfolding length_refusals
  list_gives {n} given =
      refused_given (call_refusals c) count
      (stops_first (list_refusals (length g.pairs)) (buffer_refusals count (length c.rows) (length c.next)) count count n
      (given_refused (list_refusals (length g.pairs)) count given))

  list_passes : NoneApplies (list_refusals (length g.pairs)) → NoneApplies (call_refusals c)
  unfolding length_refusals
  list_passes none = none_join (list_refusals (length g.pairs)) (buffer_refusals count (length c.rows) (length c.next)) none no_12

  -- ---- Their rows beside the run's

  abbrev near : (j : ℕ) → Bool
  near j = agrees g.tolerance (stress_at g.rows j) (stress_at leaves.rows j)

  agree : (j : ℕ) → near j ≡ true → Agrees sheet state g j
  agree j e = le_z_yes (subst T (sym e) tt)

  nears : (j : ℕ) → Agrees sheet state g j → near j ≡ true
  nears j a = by_test (near j) a.le
    where
      by_test : (b : Bool) → T b → b ≡ true
      by_test true t = refl
      by_test false t = absurd t

  offs : (j : ℕ) → (Agrees sheet state g j → ⊥) → near j ≡ false
  offs j not = by_test (near j) refl
    where
      by_test : (b : Bool) → near j ≡ b → near j ≡ false
      by_test true e = absurd (not (agree j e))
      by_test false e = e

  off_not : (j : ℕ) → near j ≡ false → Agrees sheet state g j → ⊥
  off_not j e a = subst T e a.le

  -- The rows of a run that isn't refused are those of its walk.
  first_is : NoneApplies (standing_refusals sheet state) → leaves.reply.number ≡ 0
      → first_outside g.tolerance g.rows 0 (rows_of walked.advances) ≡ first_where near 0 count
  unfolding accepted_in
  first_is standing none =
      let all : accepted_in sheet state c ≡ count = rw (eq-eqb leaves.reply.number 0 none) refl in
      let u = upto sheet state standing c count (omega (arith, all)) in
      ap (λ (w : Walk). first_outside g.tolerance g.rows 0 (rows_of w.advances)) (walk_all h r (pairs_in g.pairs) u.advances u.history)
      ∙ ap (first_outside g.tolerance g.rows 0) (sym u.rows) ∙ first_in_bytes g.tolerance g.rows leaves.rows 0 count

  -- ---- What the verdict comes to

  -- The run is refused, and so is the grading; or neither is, and the rows decide, once 16 and 17 don't apply.
  pub record Refused : Type 0 where
    pub some : leaves.reply.number ≡ 0 → ⊥
    pub is : grade_of sheet state g ≡ verdict leaves.reply.number leaves.reply.place 0

  pub record Compared : Type 0 where
    pub standing : NoneApplies (standing_refusals sheet state)
    pub none : leaves.reply.number ≡ 0
    pub is : grade_of sheet state g ≡ verdict_by (first_of (grading_refusals g) (verdict 0 0 (first_where near 0 count)))

  pub came : Refused ⊎ Compared
  came = by_standing (decides (standing_refusals sheet state))
    where
      stops : {n : ℕ} (back : List ℕ) → (n ≡ 0 → ⊥) → leaves ≡ stopped n back c → grade_of sheet state g ≡ verdict n 0 0 → Refused ⊎ Compared
      stops {n} back some e is =
          inl (record {
            some = λ z. some (sym (ap (λ (l : Left). l.reply.number) e) ∙ z);
            is = is ∙ ap (λ (l : Left). verdict l.reply.number l.reply.place 0) (sym e);
          })

      by_walk : NoneApplies (standing_refusals sheet state) → NoneApplies (list_refusals (length g.pairs)) → Refused ⊎ Compared
      by_walk none own = by_number (eqb walked.number 0) refl
        where
          went : leaves.reply.number ≡ walked.number
          went = ap (λ (l : Left). l.reply.number) (when_walked sheet state c none (list_passes own))

          place : leaves.reply.place ≡ place_of walked
          place = ap (λ (l : Left). l.reply.place) (when_walked sheet state c none (list_passes own))

          is-walked : grade_of sheet state g ≡ verdict_on g walked
          is-walked = list_walked sheet state g (none_passes (standing_refusals sheet state) (ready_of sheet state) none) (none_passes (list_refusals (length g.pairs)) count own)

          by_number : (b : Bool) → eqb walked.number 0 ≡ b → Refused ⊎ Compared
          by_number false e =
              let some : (walked.number ≡ 0 → ⊥) = eqb-false walked.number 0 e in
              inl (record {
                some = λ z. some (sym went ∙ z);
                is = is-walked ∙ walked_refused g walked some ∙ (λ i. verdict (sym went i) (sym place i) 0);
              })
          by_number true e =
              let nought = eqb-true walked.number 0 e in
              inr (record { standing = none; none = went ∙ nought; is = is-walked ∙ walked_last g walked nought ∙ ap (λ (k : ℕ). verdict_by (first_of (grading_refusals g) (verdict 0 0 k))) (first_is none (went ∙ nought)) })

      by_list : NoneApplies (standing_refusals sheet state)
          → ((n : ℕ) × Given (list_refusals (length g.pairs)) n) ⊎ NoneApplies (list_refusals (length g.pairs)) → Refused ⊎ Compared
      by_list none (inl (n, given)) =
          stops state (call_number sheet state c (list_gives given)) (when_call sheet state c none (list_gives given))
          (list_stops sheet state g (none_passes (standing_refusals sheet state) (ready_of sheet state) none) (given_refused (list_refusals (length g.pairs)) count given))
      by_list none (inr own) = by_walk none own

      by_standing : ((n : ℕ) × Given (standing_refusals sheet state) n) ⊎ NoneApplies (standing_refusals sheet state) → Refused ⊎ Compared
      by_standing (inl (n, given)) =
          stops zero_state (standing_number sheet state c given) (when_standing sheet state c given)
          (standing_stops sheet state g (given_refused (standing_refusals sheet state) (ready_of sheet state) given))
      by_standing (inr none) = by_list none (decides (list_refusals (length g.pairs)))

  -- ---- The reasons

  own_reason : GradeReason sheet state g (grade_of sheet state g)
  own_reason = by_came came
    where
      by_rows : (x : Compared) → NoneApplies (grading_refusals g) → AllNear near 0 (0 + count) ⊎ OneOutside near 0 count → GradeReason sheet state g (grade_of sheet state g)
      by_rows x own (inl all) =
          inr (inr (inr (record {
            accepted = x.none;
            own = own;
            each = λ j there. agree j (all j (omega arith) (omega arith));
            is = x.is ∙ ap verdict_by (none_passes (grading_refusals g) _ own) ∙ ap (verdict 0 0) (none_outside near 0 count all);
          })))
      by_rows x own (inr one) =
          inr (inr (inl (record {
            accepted = x.none;
            own = own;
            j = one.at;
            there = omega (arith, one.there);
            before = λ i less. agree i (one.before i (omega arith) less);
            outside = off_not one.at one.outside;
            is = x.is ∙ ap verdict_by (none_passes (grading_refusals g) _ own) ∙ ap (verdict 0 0) (first_is_outside near 0 count one);
          })))

      by_table : (x : Compared) → ((n : ℕ) × Given (grading_refusals g) n) ⊎ NoneApplies (grading_refusals g) → GradeReason sheet state g (grade_of sheet state g)
      by_table x (inl (n, given)) =
          inr (inl (record { accepted = x.none; number = n; given = given; is = x.is ∙ ap verdict_by (given_refused (grading_refusals g) _ given) }))
      by_table x (inr own) = by_rows x own (near_or_outside near 0 count)

      by_came : Refused ⊎ Compared → GradeReason sheet state g (grade_of sheet state g)
      by_came (inl x) = inl (record { refused = x.some; is = x.is })
      by_came (inr x) = by_table x (decides (grading_refusals g))

  only_reason : (v : Verdict) → GradeReason sheet state g v → grade_of sheet state g ≡ v
  only_reason v reason = by_came came reason
    where
      by_came : Refused ⊎ Compared → GradeReason sheet state g v → grade_of sheet state g ≡ v
      by_came (inl x) (inl w) = x.is ∙ sym w.is
      by_came (inl x) (inr (inl w)) = absurd (x.some w.accepted)
      by_came (inl x) (inr (inr (inl w))) = absurd (x.some w.accepted)
      by_came (inl x) (inr (inr (inr w))) = absurd (x.some w.accepted)
      by_came (inr x) (inl w) = absurd (w.refused x.none)
      by_came (inr x) (inr (inl w)) = x.is ∙ ap verdict_by (given_refused (grading_refusals g) _ w.given) ∙ sym w.is
      by_came (inr x) (inr (inr (inl w))) =
          let one : OneOutside near 0 count =
          record { at = w.j; from = omega arith; there = omega (arith, w.there); before = λ i from less. nears i (w.before i less); outside = offs w.j w.outside } in
          x.is ∙ ap verdict_by (none_passes (grading_refusals g) _ w.own) ∙ ap (verdict 0 0) (first_is_outside near 0 count one) ∙ sym w.is
      by_came (inr x) (inr (inr (inr w))) =
          x.is ∙ ap verdict_by (none_passes (grading_refusals g) _ w.own)
          ∙ ap (verdict 0 0) (none_outside near 0 count (λ j from there. nears j (w.each j (omega arith)))) ∙ sym w.is

  own_order : numbers_of (grading_refusals g) ≡ 16 ∷ 17 ∷ []
  unfolding grading_refusals
  own_order = refl

  pub grading_answered : GradingAnswered sheet state g
  grading_answered =
      record {
        own_order = own_order;
        no_12 = no_12;
        exactly = λ v. ((λ e. subst (GradeReason sheet state g) e own_reason), only_reason v);
      }
