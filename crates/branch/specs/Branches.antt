-- The branches of a law (SPEC 7.7), their numbers in a row, and which of them are a flow, cited by row, response, accuracy,
-- board and rod_log; definitions only, nothing is assumed.
use Rattle.std.specs.Prelude.{ℕ, Bool, true, false, cond, eqb}
use Rattle.branch.specs.declared.Branch.{Branch}
use Rattle.branch.specs.declared.Branch.TheVariants.{Elastic, Tension, Compression}

-- SPEC 7.7: the number of a branch,
abbrev pub branch_number : Branch → ℕ
branch_number Elastic = 0
branch_number Tension = 1
branch_number Compression = 2

-- and the branch of a number. One above 2 is that of no branch and is read as elastic, a free answer: no row of ours has one.
unfoldable pub branch_of : ℕ → Branch
branch_of number = cond (eqb number 1) Tension (cond (eqb number 2) Compression Elastic)

-- SPEC 7.6: whether the rod yielded.
abbrev pub yielded_by : Branch → Bool
yielded_by Elastic = false
yielded_by Tension = true
yielded_by Compression = true
