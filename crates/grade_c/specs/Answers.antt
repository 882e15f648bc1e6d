-- What C sees of a grading (SPEC 9.10, 17.6), cited by its contract; definitions only, nothing is assumed.
use Rattle.std.specs.Prelude.{ℕ}
use Rattle.refusals.specs.Table.{in_one_number}
use Rattle.grade.specs.Grades.{Verdict}

-- SPEC 17.6: the answer, and what stands at `row` afterwards.
pub record GradeSeen : Type 0 where
  pub answer : ℕ
  pub row : ℕ

abbrev pub grade_seen : (answer row : ℕ) → GradeSeen
grade_seen answer row = record { answer = answer; row = row }

-- SPEC 17.6: number and place as one number, and the row.
abbrev pub grade_seen_of : Verdict → GradeSeen
grade_seen_of v = grade_seen (in_one_number v.number v.place) v.row
