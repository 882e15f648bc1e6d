-- A state against a sheet (SPEC 8.4), which refusal 6 is about, cited by Accepted, judge and state; definitions only, nothing is assumed.
use Rattle.std.specs.Prelude.{Bool, not, ◌&&◌, List, [], ◌∷◌, ℤ, pos, neg_ℤ, nat_abs, ◌-ℤ◌, eqb, leb}
use Rattle.std.specs.Int.Signed.{le_z}
use Rattle.refusals.specs.Table.{Refusal, refusal}
use Rattle.law.specs.declared.Law.{Law}
use Rattle.law.specs.declared.Law.TheVariants.{IsotropicLine, IsotropicCurve, Kinematic, Asymmetric}
use Rattle.law.specs.Laws.{number_of}
use Rattle.curve.specs.declared.Side.{Side}
use Rattle.sheet.specs.declared.Sheet.{Sheet}
use Rattle.rod.specs.declared.Rod.{Rod}
use Rattle.rod.specs.WithinLimit.{within_limit}

-- SPEC 8.4: the second variable is 0.
abbrev pub no_second : Rod → Bool
no_second r = eqb (nat_abs r.second.0) 0

-- SPEC 8.4: an abscissa isn't below the yield of its side.
abbrev pub past_yield : Side → ℤ → Bool
past_yield side abscissa = le_z (pos side.yield_stress.0) abscissa

-- SPEC 8.4, laws 0 and 1: the magnitude of the stress is within T at the abscissa.
unfoldable pub isotropic_belongs : Sheet → Rod → Bool
isotropic_belongs h r =
    past_yield h.tension r.first.0
    && within_limit h.modulus.0 h.tension (nat_abs r.first.0) (pos (nat_abs r.stress.0))
    && no_second r

-- SPEC 8.4, law 2: the stress is at most the radius, the yield, away from the centre.
unfoldable pub kinematic_belongs : Sheet → Rod → Bool
kinematic_belongs h r =
    leb (nat_abs (r.stress.0 -ℤ r.first.0)) h.tension.yield_stress.0 && no_second r

-- SPEC 8.4, law 3: the stress is within the limits of both sides.
unfoldable pub asymmetric_belongs : Sheet → Rod → Bool
asymmetric_belongs h r =
    past_yield h.tension r.first.0
    && past_yield h.compression r.second.0
    && within_limit h.modulus.0 h.tension (nat_abs r.first.0) r.stress.0
    && within_limit h.modulus.0 h.compression (nat_abs r.second.0) (neg_ℤ r.stress.0)

-- SPEC 8.4: what must hold under each law.
abbrev pub belongs_by : Law → Sheet → Rod → Bool
belongs_by IsotropicLine h r = isotropic_belongs h r
belongs_by IsotropicCurve h r = isotropic_belongs h r
belongs_by Kinematic h r = kinematic_belongs h r
belongs_by Asymmetric h r = asymmetric_belongs h r

-- SPEC 8.4: the state has the sheet's law, and what must hold under it does.
unfoldable pub belongs : Sheet → Rod → Bool
belongs h r = eqb (number_of r.law) (number_of h.law) && belongs_by h.law h r

-- SPEC 8.2: 6 elsewhere.
unfoldable pub against_refusals : Sheet → Rod → List Refusal
against_refusals h r = refusal 6 (not (belongs h r)) ∷ []
