-- The yield limits that go along with a rod (SPEC 7.12), cited by rod and carry; definitions only, nothing is assumed. They save reading
-- the curve at the old abscissas once more.
use Rattle.std.specs.Prelude.{ℕ, Bool, cond, ℤ, nat_abs}
use Rattle.law.specs.declared.Law.{Law}
use Rattle.law.specs.declared.Law.TheVariants.{IsotropicLine, IsotropicCurve, Kinematic, Asymmetric}
use Rattle.units.specs.declared.Magnitude.{Magnitude}
use Rattle.units.specs.Kinds.{magnitude}
use Rattle.units.specs.Signs.{is_neg}
use Rattle.curve.specs.declared.Side.{Side}
use Rattle.curve.specs.Curve.{limit_at}
use Rattle.curve.specs.Sides.{curve_of}
use Rattle.sheet.specs.declared.Sheet.{Sheet}
use Rattle.response.specs.declared.Limits.{Limits}

-- SPEC 4.4: T of a side at an abscissa, rounded down.
abbrev pub limit_on : (E : ℕ) → Side → (abscissa : ℤ) → Magnitude
limit_on E side abscissa = magnitude (limit_at E (curve_of side) (nat_abs abscissa))

-- SPEC 7.12: a limit for each of the two variables.
abbrev pub limits : (first second : Magnitude) → Limits
limits first second = record { first = first; second = second }

-- SPEC 7.12: T at each abscissa that the law has, and 0 for one that it hasn't,
abbrev pub limits_under : Law → Sheet → (first second : ℤ) → Limits
limits_under IsotropicLine h first second = limits (limit_on h.modulus.0 h.tension first) (magnitude 0)
limits_under IsotropicCurve h first second = limits (limit_on h.modulus.0 h.tension first) (magnitude 0)
limits_under Kinematic h first second = limits (magnitude 0) (magnitude 0)
limits_under Asymmetric h first second =
    limits (limit_on h.modulus.0 h.tension first) (limit_on h.modulus.0 h.compression second)

-- under the law of the sheet.
abbrev pub limits_of : Sheet → (first second : ℤ) → Limits
limits_of h first second = limits_under h.law h first second

-- SPEC 7.12: after a pair that yields, the magnitude of the new stress is the limit of the side that flowed, and the other limit stays. Law
-- 2 has none.
abbrev pub limits_after : Law → (yielded : Bool) → (stress : ℤ) → Limits → Limits
limits_after IsotropicLine yielded stress l = cond yielded (limits (magnitude (nat_abs stress)) l.second) l
limits_after IsotropicCurve yielded stress l = cond yielded (limits (magnitude (nat_abs stress)) l.second) l
limits_after Kinematic yielded stress l = l
limits_after Asymmetric yielded stress l =
    cond yielded (cond (is_neg stress) (limits l.first (magnitude (nat_abs stress))) (limits (magnitude (nat_abs stress)) l.second)) l
