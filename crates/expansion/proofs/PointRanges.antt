-- The greatest temperature and the greatest coefficient of a point that lies within its ranges. Assumes nothing.
use Prim.Native.Nat.{◌≤◌}
use mathlib.Core.Path.{◌≡◌}
use mathlib.Core.Bool.{true}
use borrow.Author.Tests.{leb-true}
use lib.IntN.{nat_abs}
use lib.Dec.{leb}
use Rattle.refusals.proofs.FirstLaws.{both_hold}
use Rattle.ranges.specs.Ranges.{temperature_right, most_expansion}
use Rattle.ranges.proofs.RangeMagnitudes.{temperature_magnitude}
use Rattle.expansion.specs.declared.Point.{Point}
use Rattle.expansion.specs.Points.{point_right}

module _ (p : Point) (right : point_right p ≡ true) where
  pub temperature_most : nat_abs p.temperature.0 ≤ 20000
  temperature_most =
      temperature_magnitude p.temperature.0 (both_hold (temperature_right p.temperature.0) (leb p.coefficient.0 most_expansion) right).0

  pub coefficient_most : p.coefficient.0 ≤ most_expansion
  coefficient_most =
      leb-true p.coefficient.0 most_expansion (both_hold (temperature_right p.temperature.0) (leb p.coefficient.0 most_expansion) right).1
