-- Grading (SPEC 17.4, 17.5). The visitor that compares rows: of the rows that it was called with the first outside the tolerance is known.
-- And the verdict, stage by stage.
use Prim.Native.Nat.{ℕ, ◌+◌, ◌^◌, ◌<◌}
use mathlib.Core.Path.{◌≡◌, refl, sym, ap, subst, ◌∙◌}
use mathlib.Core.Bool.{Bool, true, false, false≢true, cond}
use mathlib.Core.List.{List, [], ◌∷◌}
use native.Mathlib.Omega.{arith}
use borrow.Author.Tests.{eqb-true, eqb-false, eq-eqb, ne_eqb}
use lib.IntN.{ℤ, pos, negsuc, nat_abs}
use lib.Dec.{eqb}
use lib.ListN.{length}
use Rattle.std.specs.Prelude.{Result, Ok, Err, IsErr}
use Rattle.refusals.specs.declared.Reason.{Reason}
use Rattle.refusals.specs.declared.Refused.{Refused}
use Rattle.refusals.specs.Reasons.{number_of, answer_by, answer_of}
use Rattle.refusals.proofs.ReasonLaws.{reason_numbered}
use Rattle.refusals.specs.Table.{passes, refused, first_of}
use Rattle.refusals.proofs.FirstLaws.{stops_first, goes_on, refused_anyhow, passes_anyhow}
use Rattle.refusals.proofs.Numbered.{numbered, told_anyhow}
use Rattle.bits.specs.Field.{Held}
use Rattle.bits.specs.Layout.{offset, width_at}
use Rattle.bits.proofs.LayoutLaws.{whole_of_field}
use Rattle.pair.specs.Pairs.{list_refusals}
use Rattle.row.specs.declared.Row.{Row}
use Rattle.row.specs.Rows.{row_layout, row_length}
use Rattle.sheet.specs.Sheets.{sheet_of}
use Rattle.rod.specs.declared.Rod.{Rod}
use Rattle.state.specs.States.{state_of}
use Rattle.carry.specs.Walk.{rows_of, Walk, walk}
use Rattle.judge.specs.Standing.{Ready, ready_of, standing_refusals}
use Rattle.judge.proofs.JudgeLaws.{standing_accepted}
use Rattle.tie_rod.specs.Calls.{answer_number, piece_at, count_in, pairs_in, place_of, Walked, walked_of}
use Rattle.tie_rod.specs.Visiting.{Visited}
use Rattle.grade.specs.declared.Grade.{Grade}
use Rattle.grade.specs.declared.table.Table.{Table}
use Rattle.grade.specs.declared.Grade.TheVariants.{Accepted, Differs}
use Rattle.grade.specs.Grades.{row_told, RowFromOne, CasesApart, Grading, stress_at, agrees, first_outside, Verdict, verdict, grading_refusals, verdict_by, verdict_on, grade_meaning, grade_of}
use Rattle.grade.specs.Comparing.{with_row, compared_of, settled_by}

-- A stress in a row is far from the ends of 64 bits.
pub stress_small : (z : ℤ) → Held (width_at row_layout 3) z → nat_abs z < 2 ^ 62
stress_small (pos n) held = omega (arith, held)
stress_small (negsuc n) held = omega (arith, held)

pub their_stress_small : (rows : List ℕ) (j : ℕ) → nat_abs (stress_at rows j) < 2 ^ 62
their_stress_small rows j =
    stress_small (stress_at rows j) (whole_of_field (piece_at row_length j rows) (offset row_layout 3) (width_at row_layout 3) (omega arith)).1

-- No refusal has number 0.
pub err_apart : (r : Result Grade Refused) → IsErr r → CasesApart r
err_apart (Ok grade) e = absurd (false≢true e)
err_apart (Err x) e = (reason_numbered x.reason).0

-- What the pairs come to, by the number of their walk.
pub ended_refused : (tolerance : ℤ) (theirs : List ℕ) (w : Walk) → (w.number ≡ 0 → ⊥) → compared_of tolerance theirs w ≡ verdict w.number (place_of w) 0
ended_refused tolerance theirs w some = rw (ne_eqb w.number 0 some)

pub ended_last : (tolerance : ℤ) (theirs : List ℕ) (w : Walk) → w.number ≡ 0 → compared_of tolerance theirs w ≡ verdict 0 0 (first_outside tolerance theirs 0 (rows_of w.advances))
ended_last tolerance theirs w none = rw (eq-eqb w.number 0 none)

-- A visitor that compares each row with that of a table.
module _ {F : Type 0} (graded : F → Grade) (table : F → Table) (does : F → Row → ℕ → F → Type 0)
    (keeps : (f : F) (row : Row) (j : ℕ) (g : F) → does f row j g → table g ≡ table f)
    (compares : (f : F) (row : Row) (j : ℕ) (g : F) → does f row j g
    → graded g ≡ with_row (graded f) (agrees (table f).tolerance (stress_at (table f).rows.now j) row.stress.0) j)
  where
    -- A row that is named stays the one that is named,
    named_stays : (f : F) (j : ℕ) (rows : List Row) (last : F) {named : ℕ} → graded f ≡ Differs named → Visited does f j rows last → graded last ≡ Differs named
    named_stays f j [] last is visited = ap graded (sym visited) ∙ is
    named_stays f j (row ∷ rows) last is (next, step, others) =
        let near = agrees (table f).tolerance (stress_at (table f).rows.now j) row.stress.0 in
        named_stays next (j + 1) rows last (compares f row j next step ∙ ap (λ (grade : Grade). with_row grade near j) is) others

    module _ (t : Table) where
      abbrev near : (j : ℕ) → Row → Bool
      near j row = agrees t.tolerance (stress_at t.rows.now j) row.stress.0

      abbrev Named : (last : F) → (first : ℕ) → Type 0
      Named last first = (row_told (graded last) ≡ first) × RowFromOne (graded last)

      -- and the first that is outside is named.
      pub first_named : (f : F) (j : ℕ) (rows : List Row) (last : F) → table f ≡ t → graded f ≡ Accepted → Visited does f j rows last
          → Named last (first_outside t.tolerance t.rows.now j rows)
      unfolding first_outside
      first_named f j [] last same is visited = let end = ap graded (sym visited) ∙ is in (ap row_told end, subst RowFromOne (sym end) tt)
      first_named f j (row ∷ rows) last same is (next, step, others) =
          let here : graded next ≡ with_row Accepted (near j row) j =
          compares f row j next step ∙ (λ i. with_row (is i) (agrees (same i).tolerance (stress_at (same i).rows.now j) row.stress.0) j) in
          by_row (near j row) here (λ e. first_named next (j + 1) rows last (keeps f row j next step ∙ same) e others)
        where
          by_row : (b : Bool) → graded next ≡ with_row Accepted b j → (graded next ≡ Accepted → Named last (first_outside t.tolerance t.rows.now (j + 1) rows))
              → Named last (cond b (first_outside t.tolerance t.rows.now (j + 1) rows) (j + 1))
          by_row true e onward = onward e
          by_row false e onward = let end = named_stays next (j + 1) rows last e others in (ap row_told end, subst RowFromOne (sym end) (λ z. omega (arith, z)))

-- What the pairs come to where the walk was to its end.
pub compared_at_end : (tolerance : ℤ) (theirs : List ℕ) (r : Rod) (w : Walk) {x : Walked} {row : ℕ} → x ≡ walked_of r w → x.number ≡ 0
    → row ≡ first_outside tolerance theirs 0 (rows_of w.advances) → verdict 0 0 row ≡ compared_of tolerance theirs w
compared_at_end tolerance theirs r w is none row_is =
    ap (verdict 0 0) row_is ∙ sym (ended_last tolerance theirs w (sym (ap (λ (x : Walked). x.number) is) ∙ none))

-- ---- The verdict, stage by stage

module _ (sheet state : List ℕ) (g : Grading) where
  abbrev ready : Ready
  ready = ready_of sheet state

  abbrev long : ℕ
  long = length g.pairs

  abbrev told : Verdict
  told = verdict_on g (walk (sheet_of sheet) (state_of state) (pairs_in g.pairs))

  -- A refused sheet or state,
  pub standing_stops : {n : ℕ} → first_of (standing_refusals sheet state) ready ≡ refused n → grade_of sheet state g ≡ verdict n 0 0
  unfolding grade_of
  standing_stops {n} e = ap verdict_by (stops_first (standing_refusals sheet state) (list_refusals long) ready told n e)

  module _ {x : Ready} (standing : first_of (standing_refusals sheet state) ready ≡ passes x) where
    -- a refused list,
    pub list_stops : {n : ℕ} → first_of (list_refusals long) (count_in g.pairs) ≡ refused n → grade_of sheet state g ≡ verdict n 0 0
    unfolding grade_of
    list_stops {n} e =
        ap verdict_by (goes_on (standing_refusals sheet state) (list_refusals long) ready told standing ∙ refused_anyhow (list_refusals long) (count_in g.pairs) told n e)

    -- and one whose pairs are walked.
    pub list_walked : {m : ℕ} → first_of (list_refusals long) (count_in g.pairs) ≡ passes m
        → grade_of sheet state g ≡ verdict_on g (walk x.sheet x.rod (pairs_in g.pairs))
    unfolding grade_of
    list_walked e =
        ap verdict_by (goes_on (standing_refusals sheet state) (list_refusals long) ready told standing ∙ passes_anyhow (list_refusals long) (count_in g.pairs) told e)
        ∙ ap (λ (y : Ready). verdict_on g (walk y.sheet y.rod (pairs_in g.pairs))) (standing_accepted sheet state standing).0

-- A walk that was refused at a pair,
pub walked_refused : (g : Grading) (w : Walk) → (w.number ≡ 0 → ⊥) → verdict_on g w ≡ verdict w.number (place_of w) 0
walked_refused g w some = rw (ne_eqb w.number 0 some)

-- and one that went to the end.
pub walked_last : (g : Grading) (w : Walk) → w.number ≡ 0
    → verdict_on g w ≡ verdict_by (first_of (grading_refusals g) (verdict 0 0 (first_outside g.tolerance g.rows 0 (rows_of w.advances))))
walked_last g w none = rw (eq-eqb w.number 0 none)

-- What was compared: number and place of a refused pair are the verdict,
pub compared_refused : (g : Grading) (w : Walk) {n place : ℕ} → (n ≡ 0 → ⊥) → verdict n place 0 ≡ compared_of g.tolerance g.rows w → verdict n place 0 ≡ verdict_on g w
compared_refused g w {n} {place} some e = by_number (eqb w.number 0) refl
  where
    by_number : (b : Bool) → eqb w.number 0 ≡ b → verdict n place 0 ≡ verdict_on g w
    by_number true is = absurd (some (ap (λ (v : Verdict). v.number) (e ∙ ended_last g.tolerance g.rows w (eqb-true w.number 0 is))))
    by_number false is =
        let more = eqb-false w.number 0 is in
        e ∙ ended_refused g.tolerance g.rows w more ∙ sym (walked_refused g w more)

-- and where no pair is refused, 16 and 17 decide, and then the row.
pub compared_last : (g : Grading) (w : Walk) {row : ℕ} → verdict 0 0 row ≡ compared_of g.tolerance g.rows w → verdict_by (first_of (grading_refusals g) (verdict 0 0 row)) ≡ verdict_on g w
compared_last g w {row} e = by_number (eqb w.number 0) refl
  where
    by_number : (b : Bool) → eqb w.number 0 ≡ b → verdict_by (first_of (grading_refusals g) (verdict 0 0 row)) ≡ verdict_on g w
    by_number true is =
        let none = eqb-true w.number 0 is in
        ap (λ (v : Verdict). verdict_by (first_of (grading_refusals g) v)) (e ∙ ended_last g.tolerance g.rows w none) ∙ sym (walked_last g w none)
    by_number false is =
        let more = eqb-false w.number 0 is in
        absurd (more (sym (ap (λ (v : Verdict). v.number) (e ∙ ended_refused g.tolerance g.rows w more))))

-- ---- The same with number, place and first row apart

-- What the pairs of a list come to beside their rows: number and place of a refused pair, and the first row outside the tolerance.
pub record Compared : Type 0 where
  pub number : ℕ
  pub place : ℕ
  pub first : ℕ

-- Those of a walk; the first row is there beside a refused pair too.
abbrev pub compared_apart : (tolerance : ℤ) → (theirs : List ℕ) → Walk → Compared
compared_apart tolerance theirs w =
    record { number = w.number; place = place_of w; first = first_outside tolerance theirs 0 (rows_of w.advances) }

-- The verdict on them before 16 and 17 are looked at,
abbrev pub before_own : Compared → Verdict
before_own c = cond (eqb c.number 0) (verdict 0 0 c.first) (verdict c.number c.place 0)

-- and with `own`, which is 16, 17 or 0.
abbrev pub settled : Compared → (own : ℕ) → Verdict
settled c own = cond (eqb c.number 0) (verdict_by (numbered own (verdict 0 0 c.first))) (verdict c.number c.place 0)

-- Whatever tells of a walk what the code tells of it, settled with the number that tells 16 and 17, is the verdict:
pub settled_told : (g : Grading) (w : Walk) (c : Compared) (own : ℕ) (d : ℤ) → numbered own d ≡ first_of (grading_refusals g) d
    → before_own c ≡ compared_of g.tolerance g.rows w → settled c own ≡ verdict_on g w
settled_told g w c own d e told = by_number (eqb c.number 0) refl told
  where
    by_number : (b : Bool) → eqb c.number 0 ≡ b → cond b (verdict 0 0 c.first) (verdict c.number c.place 0) ≡ compared_of g.tolerance g.rows w
        → cond b (verdict_by (numbered own (verdict 0 0 c.first))) (verdict c.number c.place 0) ≡ verdict_on g w
    by_number true is told = ap verdict_by (told_anyhow own (grading_refusals g) d (verdict 0 0 c.first) e) ∙ compared_last g w told
    by_number false is told = compared_refused g w (eqb-false c.number 0 is) told

-- so is what was compared, settled with it.
pub settled_is : (g : Grading) (w : Walk) (own : ℕ) (d : ℤ) → numbered own d ≡ first_of (grading_refusals g) d
    → settled (compared_apart g.tolerance g.rows w) own ≡ verdict_on g w
settled_is g w own d e = settled_told g w (compared_apart g.tolerance g.rows w) own d e refl

-- ---- What the code settles

-- A refused pair's verdict stays.
pub err_settled : (r : Refused) (own : Result (Unit {0}) Reason) → grade_meaning (Err r) ≡ settled_by (grade_meaning (Err r)) own
err_settled r own = rw (ne_eqb (number_of r.reason) 0 (reason_numbered r.reason).0)

-- An answer of the code is told by its number.
pub told_by_number : {A : Type 0} (own : Result (Unit {0}) Reason) (v : A) → answer_by (λ _. v) own ≡ numbered (answer_number (answer_of own)) v
told_by_number (Ok u) v = refl
told_by_number (Err reason) v = rw (ne_eqb (number_of reason) 0 (reason_numbered reason).0)

-- What was compared, settled with 16 or 17, is the verdict.
pub settled_by_is : (g : Grading) (w : Walk) (own : Result (Unit {0}) Reason) → answer_by (λ _. g.tolerance) own ≡ first_of (grading_refusals g) g.tolerance
    → settled_by (compared_of g.tolerance g.rows w) own ≡ verdict_on g w
settled_by_is g w own told =
    by_number (eqb w.number 0) refl ∙ settled_is g w (answer_number (answer_of own)) g.tolerance (sym (told_by_number own g.tolerance) ∙ told)
  where
    here : Verdict
    here = verdict 0 0 (first_outside g.tolerance g.rows 0 (rows_of w.advances))

    there : Verdict
    there = verdict w.number (place_of w) 0

    by_number : (b : Bool) → eqb w.number 0 ≡ b → settled_by (cond b here there) own ≡ cond b (verdict_by (numbered (answer_number (answer_of own)) here)) there
    by_number true is = ap verdict_by (told_by_number own here)
    by_number false is = rw is
