-- Demand 3 for sections (SPEC 15.11): behind every call of a list of section calls, refused ones among them, each member is where a lone rod
-- is that was given the accepted calls' own pairs, and so all of demand 3 holds of it. The bound itself is demand 3's.
use Prim.Native.Nat.{ℕ}
use mathlib.Core.Path.{◌≡◌, refl, sym, ap, subst, ◌∙◌}
use mathlib.Core.Bool.{Bool, true, false, cond}
use mathlib.Core.List.{List, [], ◌∷◌, ◌++◌, map, append-nil}
use borrow.Author.Tests.{eqb-true, eqb-false}
use lib.Dec.{eqb}
use lib.IntN.{ℤ}
use Rattle.refusals.specs.Table.{passes, first_of}
use Rattle.sheet.specs.Sheets.{sheet_of, sheet_refusals}
use Rattle.sheet.specs.Sound.{SheetSound}
use Rattle.rod.specs.declared.step.Advance.{Advance}
use Rattle.section.specs.declared.Member.{Member}
use Rattle.section.specs.declared.Change.{Change}
use Rattle.section.specs.Sections.{member_pair, member_answer, with_state, Move, SectionLeft, section_leaves}
use Rattle.section.proofs.MovesLaws.{Pass, moves_of}
use Rattle.tie_rod.specs.Calls.{Call, unused_answer}
use Rattle.demands.specs.Lists.{Operation, carries, Situation, begins, after_call, after, after_all, Holds, AtEveryStop}
use Rattle.demands.specs.Gradings.{own_run}
use Rattle.demands.specs.Sections.{Each, EachAfter, lone_call, lone_calls, SectionSituation, section_begins, after_section, LikeLone, AtEverySection, WithinFrom}
use Rattle.demands.proofs.Splits.{map_append}
use Rattle.demands.proofs.Demand3.{all_within, unused_made}
use Rattle.demands.proofs.GradingBounds.{at_grading}
use Rattle.demands.proofs.LoneRods.{lone_after}
use Rattle.demands.proofs.SectionAnswers.{kept_beside, without_number}

module _ (sheet : List ℕ) where
  -- One operation more.
  after_append : (s : Situation) (list : List Operation) (o : Operation) → after_all sheet s (list ++ (o ∷ [])) ≡ after sheet (after_all sheet s list) o
  unfolding after_all
  after_append s [] o = refl
  after_append s (x ∷ list) o = after_append (after sheet s x) list o

  module _ (sound : SheetSound (sheet_of sheet)) where
    -- Demand 3 at the end of a list.
    end_holds : (s : Situation) (list : List Operation) → AtEveryStop sheet sound s list → Holds sheet sound (after_all sheet s list)
    unfolding after_all
    end_holds s [] holds = holds
    end_holds s (o ∷ list) (here, rest) = end_holds (after sheet s o) list rest

    module _ (unused : List ℕ) (within : (list : List Operation) → AtEveryStop sheet sound (begins unused) list)
        (passed : first_of (sheet_refusals sheet) (sheet_of sheet) ≡ passes (sheet_of sheet)) where
      abbrev Like : List Change → Member → Member → Type 0
      Like = LikeLone sheet sound unused

      abbrev lone : Member → List Change → Situation
      lone m changes = after_all sheet (begins unused) (lone_calls m changes)

      -- A member that passes one call more stays like its lone rod. Only its offset decides which pair it is given.
      like_next : (changes : List Change) (c : Change) (began m : Member) {a : Advance} → member_answer (sheet_of sheet) c m ≡ passes a → Like changes began m
          → Like (changes ++ (c ∷ [])) began (with_state m a.rod)
      like_next changes c began m {a} e like =
          let more = changes ++ (c ∷ []) in
          let calls = ap (λ (x : ℤ). call_at x) like.offset in
          let next = lone_after sheet passed sound c m e (lone began changes) (sym like.state) in
          let is : lone began more ≡ after_call sheet (lone began changes) (lone_call c m) =
          ap (after_all sheet (begins unused)) (map_append (λ (x : Change). carries (lone_call x began)) changes (c ∷ []))
          ∙ after_append (begins unused) (lone_calls began changes) (carries (lone_call c began)) ∙ ap (after_call sheet (lone began changes)) (sym calls) in
          let own : member_pair c m ≡ member_pair c began = ap (λ (x : ℤ). member_pair c (record { area = m.area; offset = x; state = m.state })) like.offset in
          record {
            area = like.area;
            offset = like.offset;
            state = sym (ap (λ (x : Situation). x.state) is ∙ next.0);
            history = ap (λ (x : Situation). x.history) is ∙ next.1 ∙ (λ i. like.history i ++ (own i ∷ []))
                ∙ sym (map_append (λ (x : Change). member_pair x began) changes (c ∷ []));
            holds = end_holds (begins unused) (lone_calls began more) (within (lone_calls began more));
            every_stop = within (lone_calls began more);
          }
        where
          call_at : ℤ → Call
          call_at x = lone_call c (record { area = m.area; offset = x; state = m.state })

      all_next : (changes : List Change) (c : Change) (began l : List Member) (advances : List Advance) → Pass (sheet_of sheet) c l advances
          → EachAfter (Like changes) began l → EachAfter (Like (changes ++ (c ∷ []))) began (map (λ (v : Move). v.to) (moves_of (sheet_of sheet) c l advances))
      all_next changes c [] [] advances pass likes = tt
      all_next changes c [] (m ∷ l) advances pass likes = absurd likes
      all_next changes c (b ∷ began) [] advances pass likes = absurd likes
      all_next changes c (b ∷ began) (m ∷ l) [] pass likes = absurd pass
      all_next changes c (b ∷ began) (m ∷ l) (a ∷ advances) (e, pass) (like, likes) = (like_next changes c b m e like, all_next changes c began l advances pass likes)

      -- So does every member behind any call, accepted or not.
      after_one : (began : List Member) (s : SectionSituation) (c : Change) → EachAfter (Like s.changes) began s.members
          → let t = after_section sheet s c in EachAfter (Like t.changes) began t.members
      after_one began s c likes = by_number (eqb number 0) refl
        where
          number : ℕ
          number = (section_leaves sheet c s.members).reply.number

          by_number : (b : Bool) → eqb number 0 ≡ b → EachAfter (Like (s.changes ++ cond b (c ∷ []) [])) began (section_leaves sheet c s.members).members
          by_number true e =
              without_number sheet c s.members (λ (l : SectionLeft). EachAfter (Like (s.changes ++ (c ∷ []))) began l.members)
              (λ advances none pass. all_next s.changes c began s.members advances pass likes) (eqb-true number 0 e)
          by_number false e =
              let kept = kept_beside sheet c s.members (eqb-false number 0 e) in
              subst (λ (t : List Change × List Member). EachAfter (Like t.0) began t.1) (λ i. (sym (append-nil s.changes) i, sym kept i)) likes

      at_every_section : (began : List Member) (s : SectionSituation) (changes : List Change) → EachAfter (Like s.changes) began s.members
          → AtEverySection sheet sound unused began s changes
      at_every_section began s [] likes = likes
      at_every_section began s (c ∷ changes) likes = (likes, at_every_section began (after_section sheet s c) changes (after_one began s c likes))

      begin_like : (l : List Member) → Each (λ (m : Member). m.state ≡ unused) l → EachAfter (Like []) l l
      unfolding after_all
      begin_like [] are = tt
      begin_like (m ∷ l) (is, are) =
          (record { area = refl; offset = refl; state = is; history = refl; holds = within []; every_stop = within [] }, begin_like l are)

-- Demand 3 whole.
pub within_from : (sheet first : List ℕ) → unused_answer sheet ≡ passes first → (sound : SheetSound (sheet_of sheet)) × WithinFrom sheet sound first
within_from sheet first made =
    let (sound, all) = all_within sheet first made in
    let within = all.lists in
    let passed = (unused_made sheet made).0 in (
      sound,
      record {
        lists = within;
        moved_on = all.moved_on;
        gradings = λ list g. at_grading sheet sound (after_all sheet (begins first) list) g (all.one_more list (own_run g));
        sections = λ members are changes. at_every_section sheet sound first within passed members (section_begins members) changes (begin_like sheet sound first within passed members are);
      },
    )
