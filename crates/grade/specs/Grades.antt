-- Grading another firm's table (SPEC 17): the verdict on their rows, cited by the contracts of this crate and of grade_c and by the
-- demands; definitions only, for any bytes and any tolerance, nothing is assumed.
use Rattle.std.specs.Prelude.{ℕ, ◌+◌, ◌*◌, ◌≡◌, Bool, not, cond, List, [], ◌∷◌, ◌++◌, ℤ, pos, nat_abs, ◌-ℤ◌, length, eqb, Result, Ok, Err}
use Rattle.std.specs.Int.Signed.{le_z}
use Rattle.refusals.specs.Table.{Refusal, refusal, Answer, passes, refused, first_of}
use Rattle.refusals.specs.Reasons.{number_of}
use Rattle.refusals.specs.declared.Refused.{Refused}
use Rattle.bits.specs.Field.{withinℤ}
use Rattle.ranges.specs.Ranges.{most_tolerance}
use Rattle.pair.specs.Pairs.{list_refusals}
use Rattle.row.specs.declared.Row.{Row}
use Rattle.row.specs.Rows.{row_of, row_length}
use Rattle.sheet.specs.Sheets.{sheet_of}
use Rattle.state.specs.States.{state_of}
use Rattle.carry.specs.Walk.{Walk, walk, rows_of}
use Rattle.judge.specs.Standing.{standing_refusals}
use Rattle.tie_rod.specs.Calls.{piece_at, count_in, pairs_in, place_of}
use Rattle.grade.specs.declared.Grade.{Grade}
use Rattle.grade.specs.declared.Grade.TheVariants as grades

-- SPEC 17.2: what is graded, beside sheet and state: the bytes of the pairs and of their rows, and how far their stresses may lie from
-- ours, in grains. Any bytes, any lengths, any whole number.
pub record Grading : Type 0 where
  pub pairs : List ℕ
  pub rows : List ℕ
  pub tolerance : ℤ

abbrev pub grading : (pairs rows : List ℕ) → (tolerance : ℤ) → Grading
grading pairs rows tolerance = record { pairs = pairs; rows = rows; tolerance = tolerance }

-- ---- Their rows beside ours

-- SPEC 17.3: the stress in row j of some bytes, counted from 0; no other field of theirs is looked at.
abbrev pub stress_at : (rows : List ℕ) → (j : ℕ) → ℤ
stress_at rows j = (row_of (piece_at row_length j rows)).stress.0

-- SPEC 17.3: a stress of theirs lies within the tolerance of ours.
abbrev pub agrees : (tolerance theirs ours : ℤ) → Bool
agrees tolerance theirs ours = le_z (pos (nat_abs (theirs -ℤ ours))) tolerance

-- SPEC 17.4: the first row, counted from 1, whose stress isn't within the tolerance of ours; 0 where there is none. `ours` are our rows
-- from row j on, counted from 0.
unfoldable pub first_outside : (tolerance : ℤ) → (theirs : List ℕ) → (j : ℕ) → (ours : List Row) → ℕ
first_outside tolerance theirs j [] = 0
first_outside tolerance theirs j (row ∷ ours) =
    cond (agrees tolerance (stress_at theirs j) row.stress.0) (first_outside tolerance theirs (j + 1) ours) (j + 1)

-- ---- The verdict

-- SPEC 17.6: what a grading answers: number and place, and the row that isn't within the tolerance. All three are 0 where the table is
-- accepted.
pub record Verdict : Type 0 where
  pub number : ℕ
  pub place : ℕ
  pub row : ℕ

abbrev pub verdict : (number place row : ℕ) → Verdict
verdict number place row = record { number = number; place = place; row = row }

-- SPEC 17.6: the row that a grade names, 0 where there is none,
abbrev pub row_told : Grade → ℕ
row_told grades.Accepted = 0
row_told (grades.Differs row) = row

-- and SPEC 8.8: number, place and row of an answer.
abbrev pub grade_meaning : Result Grade Refused → Verdict
grade_meaning (Ok grade) = verdict 0 0 (row_told grade)
grade_meaning (Err r) = verdict (number_of r.reason) r.place 0

-- SPEC 17.6: the cases are apart: a row that differs is counted from 1, and no number is 0.
abbrev pub RowFromOne : Grade → Type 0
RowFromOne grades.Accepted = Unit {0}
RowFromOne (grades.Differs row) = row ≡ 0 → ⊥

abbrev pub CasesApart : Result Grade Refused → Type 0
CasesApart (Ok grade) = RowFromOne grade
CasesApart (Err r) = number_of r.reason ≡ 0 → ⊥

-- SPEC 17.5: 16 turns away rows that aren't as many as the pairs, by their bytes; 17 a tolerance outside its range.
unfoldable pub grading_refusals : Grading → List Refusal
grading_refusals g =
    refusal 16 (not (eqb (length g.rows) (row_length * count_in g.pairs)))
    ∷ refusal 17 (not (withinℤ (pos 0) (pos most_tolerance) g.tolerance)) ∷ []

-- SPEC 17.5: what is decided before the first pair: 1 to 6 and 13, and 7. No buffer is lent, so that there is no 12.
abbrev pub opening_refusals : (sheet state : List ℕ) → Grading → List Refusal
opening_refusals sheet state g = standing_refusals sheet state ++ list_refusals (length g.pairs)

-- SPEC 17.5: a number of either table has place 0.
abbrev pub verdict_by : Answer Verdict → Verdict
verdict_by (passes v) = v
verdict_by (refused number) = verdict number 0 0

-- SPEC 17.5: a refused pair goes before 16 and 17, wherever it stands, and these before the rows.
abbrev pub verdict_on : Grading → Walk → Verdict
verdict_on g w =
    cond (eqb w.number 0) (verdict_by (first_of (grading_refusals g) (verdict 0 0 (first_outside g.tolerance g.rows 0 (rows_of w.advances)))))
    (verdict w.number (place_of w) 0)

-- SPEC 17.4, 17.5: the verdict. The contract of the entry is an equation with this.
unfoldable pub grade_of : (sheet state : List ℕ) → Grading → Verdict
grade_of sheet state g =
    verdict_by (first_of (opening_refusals sheet state g) (verdict_on g (walk (sheet_of sheet) (state_of state) (pairs_in g.pairs))))
