-- How the code comes to a verdict (SPEC 17.4, 17.5): row by row, with the first that is outside the tolerance so far; cited by the contracts of
-- this crate alone. Definitions only, nothing is assumed.
use Rattle.std.specs.Prelude.{ℕ, ◌+◌, Bool, cond, List, ℤ, eqb, Result}
use Rattle.refusals.specs.declared.Reason.{Reason}
use Rattle.refusals.specs.Reasons.{answer_by}
use Rattle.carry.specs.Walk.{Walk, rows_of}
use Rattle.tie_rod.specs.Calls.{place_of}
use Rattle.grade.specs.declared.Grade.{Grade}
use Rattle.grade.specs.declared.Grade.TheVariants.{Accepted, Differs}
use Rattle.grade.specs.Grades.{first_outside, Verdict, verdict, verdict_by}

-- SPEC 17.4: the grade with row j, counted from 0, compared too: it stays what it was where it names a row, or where row j agrees.
abbrev pub with_row : Grade → (agree : Bool) → (j : ℕ) → Grade
with_row Accepted agree j = cond agree Accepted (Differs (j + 1))
with_row (Differs row) agree j = Differs row

-- SPEC 17.4: what the pairs of a list come to beside their rows: number and place of the walk, or the first row outside the tolerance.
abbrev pub compared_of : (tolerance : ℤ) → (theirs : List ℕ) → Walk → Verdict
compared_of tolerance theirs w =
    cond (eqb w.number 0) (verdict 0 0 (first_outside tolerance theirs 0 (rows_of w.advances))) (verdict w.number (place_of w) 0)

-- SPEC 17.5: the verdict on that, where `own` is 16, 17 or none of them: they go before the rows, and behind a refused pair.
abbrev pub settled_by : Verdict → (own : Result (Unit {0}) Reason) → Verdict
settled_by v own = cond (eqb v.number 0) (verdict_by (answer_by (λ _. v) own)) v
