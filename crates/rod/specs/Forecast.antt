-- The forecast of a state without a pair (SPEC 7.13), cited by tie_rod and the demands; definitions only, nothing is assumed.
use Rattle.std.specs.Prelude.{ℕ, cond, nat_abs}
use Rattle.law.specs.declared.Law.{Law}
use Rattle.law.specs.declared.Law.TheVariants.{IsotropicLine, IsotropicCurve, Kinematic, Asymmetric}
use Rattle.curve.specs.Tangent.{tangent_at}
use Rattle.curve.specs.Sides.{curve_of}
use Rattle.sheet.specs.declared.Sheet.{Sheet}
use Rattle.sheet.specs.Sound.{tangent_of}
use Rattle.rod.specs.declared.Rod.{Rod}

-- SPEC 7.13: the tangent of the state's segment: the one that holds its abscissa (laws 0, 1), the one there is (law 2). Law 3 has E for it.
abbrev pub segment_tangent : Law → Sheet → Rod → ℕ
segment_tangent IsotropicLine h r = tangent_at h.modulus.0 (curve_of h.tension) (nat_abs r.first.0)
segment_tangent IsotropicCurve h r = tangent_at h.modulus.0 (curve_of h.tension) (nat_abs r.first.0)
segment_tangent Kinematic h r = tangent_of h.tension 0
segment_tangent Asymmetric h r = h.modulus.0

-- SPEC 7.13: the forecast, which is the papers' term: that tangent if the state's yielded bit is 1, and else E.
unfoldable pub forecast_of : Sheet → Rod → ℕ
forecast_of h r = cond r.yielded (segment_tangent h.law h r) h.modulus.0
