-- What the functions behind a law's answer answer for one side (SPEC 7.11, 8.8), cited by this crate's contracts; definitions only, nothing
-- is assumed.
use Rattle.std.specs.Prelude.{ℕ, ◌+◌, ◌-◌, Bool, true, false, cond, pos, ltb, Option, Some, None}
use Rattle.units.specs.declared.Magnitude.{Magnitude}
use Rattle.units.specs.declared.Modulus.{Modulus}
use Rattle.units.specs.Kinds.{magnitude, modulus, grain}
use Rattle.units.specs.Signs.{with_sign}
use Rattle.curve.specs.declared.Side.{Side}
use Rattle.curve.specs.Curve.{limit_at}
use Rattle.curve.specs.Tangent.{tangent_at}
use Rattle.curve.specs.Sides.{curve_of}
use Rattle.response.specs.declared.Flowed.{Flowed}
use Rattle.response.specs.declared.Motion.{Motion}
use Rattle.response.specs.declared.Motion.TheVariants.{Tension, Compression}

-- SPEC 7.11: up to the limit a side stays; past it the abscissa grows by the excess, which gives a new one.
abbrev pub side_flow : (abscissa limit trial : ℕ) → Option Magnitude
side_flow abscissa limit trial = cond (ltb limit trial) (Some (magnitude (abscissa + (trial - limit)))) None

-- SPEC 7.8, 7.11: what a side leaves that has moved to an abscissa: the limit there with its sign, the abscissa, and the tangent.
abbrev pub flow_at : Side → Modulus → Magnitude → (negative : Bool) → Flowed
flow_at side e moved negative =
    record {
      stress = grain (with_sign negative (limit_at e.0 (curve_of side) moved.0));
      variable = grain (pos moved.0);
      tangent = modulus (tangent_at e.0 (curve_of side) moved.0);
    }

-- SPEC 7.7: a flow toward compression, or toward tension.
abbrev pub flow_toward : (negative : Bool) → Flowed → Motion
flow_toward true f = Compression f
flow_toward false f = Tension f
