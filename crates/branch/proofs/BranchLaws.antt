-- A branch and its number tell each other.
use Prim.Native.Nat.{◌<◌}
use mathlib.Core.Path.{◌≡◌, refl}
use native.Mathlib.Omega.{arith}
use Rattle.branch.specs.declared.Branch.{Branch}
use Rattle.branch.specs.declared.Branch.TheVariants.{Elastic, Tension, Compression}
use Rattle.branch.specs.Branches.{branch_number, branch_of}

pub branch_of_number : (b : Branch) → branch_of (branch_number b) ≡ b
unfolding branch_of
branch_of_number Elastic = refl
branch_of_number Tension = refl
branch_of_number Compression = refl

pub number_below_three : (b : Branch) → branch_number b < 3
number_below_three Elastic = omega arith
number_below_three Tension = omega arith
number_below_three Compression = omega arith
