-- The curve of some segments as a side for the laws (SPEC 4.4, 4.9), cited by response; definitions only, nothing is assumed.
use Rattle.std.specs.Prelude.{ℕ, ◌<◌, pos}
use Rattle.fractions.specs.Fraction.{whole}
use Rattle.curve.specs.Curve.{Curve, Below, Falling, limit_f}
use Rattle.flow.specs.Side.{Side}

-- SPEC 4.4: the yield in grains, and T over fractions, not rounded.
abbrev pub side_of : (E : ℕ) → 0 < E → Curve → Side
side_of E E_pos curve = record { yield = whole (pos curve.yield); limit = limit_f E E_pos curve }

-- SPEC 4.9, of a sheet that passes: the side's yield is above nought, each of its tangents is below E, and none is above its predecessor.
pub record CurvePasses (E : ℕ) (curve : Curve) : Type 0 where
  pub yield_pos : 0 < curve.yield
  pub below : Below E curve.segments
  pub falling : Falling E curve.segments
