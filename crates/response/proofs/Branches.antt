-- How the sign and the magnitude of a trial make a law's answer: laws over the definitions, for the proofs of the functions.
use Prim.Native.Nat.{ℕ, ◌+◌, ◌-◌, ◌*◌, ◌/◌, ◌≤◌, ◌<◌}
use mathlib.Core.Path.{◌≡◌, refl}
use mathlib.Core.Bool.{Bool, true, false, true≢false, cond}
use lib.IntN.{ℤ, pos, negsuc, nat_abs, ◌+ℤ◌, ◌-ℤ◌}
use Rattle.std.proofs.Common.{rules}
use Rattle.std.specs.Prelude.{Some, None}
use borrow.Author.Tests.{le-leb, lt-leb}
use Rattle.branch.specs.declared.Branch.TheVariants as branches
use Rattle.fractions.specs.Fraction.{signed}
use Rattle.units.specs.declared.Magnitude.{Magnitude}
use Rattle.units.specs.declared.Modulus.{Modulus}
use Rattle.units.specs.Kinds.{grain, magnitude, modulus}
use Rattle.units.specs.Signs.{is_neg, with_sign}
use Rattle.curve.specs.declared.Side.{Side}
use Rattle.curve.specs.Curve.{limit_at}
use Rattle.curve.specs.Sides.{curve_of}
use Rattle.flow.specs.Stored.{side_stored, isotropic_stored, kinematic_stored}
use Rattle.response.specs.declared.Flowed.{Flowed}
use Rattle.response.specs.declared.Motion.TheVariants as motions
use Rattle.response.specs.Response.{isotropic_moved, kinematic_moved, moved_meaning}
use Rattle.response.specs.SideFlows.{flow_at, flow_toward, side_flow}

pub sign_put_back : (s : ℤ) (n : ℕ) → with_sign (is_neg s) n ≡ signed s (pos n)
sign_put_back (pos m) n = refl
sign_put_back (negsuc m) n = refl

own_sign : (s : ℤ) → signed s (pos (nat_abs s)) ≡ s
own_sign (pos m) = refl
own_sign (negsuc m) = refl

pub not_negative : (z : ℤ) → is_neg z ≡ false → pos (nat_abs z) ≡ z
not_negative (pos n) h = refl
not_negative (negsuc n) h = absurd (true≢false h)

-- A flow in either direction.
pub flow_meaning : (E : ℕ) (variable trial : ℤ) (negative : Bool) (f : Flowed)
    → moved_meaning E variable trial (flow_toward negative f)
    ≡ record { yielded = true; branch = cond negative branches.Compression branches.Tension; stress = f.stress.0; variable = f.variable.0; tangent = f.tangent.0 }
unfolding moved_meaning
flow_meaning E variable trial true f = refl
flow_meaning E variable trial false f = refl

-- Where a side has no new abscissa the trial is within the limit, and where it has one it is past it.
pub side_still : (abscissa limit trial : ℕ) → side_flow abscissa limit trial ≡ None → trial ≤ limit
side_still abscissa limit trial e = search rules

pub side_moved : (abscissa limit trial : ℕ) {a : Magnitude} → side_flow abscissa limit trial ≡ Some a
    → (limit < trial) × (magnitude (abscissa + (trial - limit)) ≡ a)
side_moved abscissa limit trial e = search rules

-- Within its limit the isotropic law leaves all as it was; past it the abscissa grows by the excess, and the stress lies at the limit there.
module _ (side : Side) (e : Modulus) (abscissa trial : ℤ) where
  abbrev limit : ℕ
  limit = limit_at e.0 (curve_of side) (nat_abs abscissa)

  pub within_limit_elastic : is_neg abscissa ≡ false → nat_abs trial ≤ limit
      → moved_meaning e.0 abscissa trial motions.Still ≡ isotropic_moved e.0 (curve_of side) abscissa trial
  unfolding moved_meaning isotropic_moved isotropic_stored side_stored
  within_limit_elastic h within = rw (le-leb (nat_abs trial) limit within, own_sign trial, not_negative abscissa h)

  pub past_limit_flows : limit < nat_abs trial
      → moved_meaning e.0 abscissa trial (flow_toward (is_neg trial) (flow_at side e (magnitude (nat_abs abscissa + (nat_abs trial - limit))) (is_neg trial)))
      ≡ isotropic_moved e.0 (curve_of side) abscissa trial
  unfolding isotropic_moved isotropic_stored side_stored
  past_limit_flows past =
      let moved = magnitude (nat_abs abscissa + (nat_abs trial - limit)) in
      rw (
        flow_meaning e.0 abscissa trial (is_neg trial) (flow_at side e moved (is_neg trial)),
        sign_put_back trial (limit_at e.0 (curve_of side) moved.0),
        lt-leb (nat_abs trial) limit past,
      )

-- Within its radius the kinematic law leaves all as it was; past it the centre moves toward the trial.
module _ (E tangent yield : ℕ) (centre trial : ℤ) where
  abbrev distance : ℤ
  distance = trial -ℤ centre

  pub within_radius_elastic : nat_abs distance ≤ yield → moved_meaning E centre trial motions.Still ≡ kinematic_moved E tangent yield centre trial
  unfolding moved_meaning kinematic_moved kinematic_stored
  within_radius_elastic h = rw (le-leb (nat_abs distance) yield h)

  abbrev shifted : ℤ
  shifted = centre +ℤ with_sign (is_neg distance) ((nat_abs distance - yield) * tangent / E)

  abbrev shifted_flow : Flowed
  shifted_flow = record { stress = grain (shifted +ℤ with_sign (is_neg distance) yield); variable = grain shifted; tangent = modulus tangent }

  pub past_radius_flows : yield < nat_abs distance
      → moved_meaning E centre trial (flow_toward (is_neg distance) shifted_flow) ≡ kinematic_moved E tangent yield centre trial
  unfolding kinematic_moved kinematic_stored
  past_radius_flows h =
      let shift = (nat_abs distance - yield) * tangent / E in
      rw (
        flow_meaning E centre trial (is_neg distance) shifted_flow,
        sign_put_back distance shift,
        sign_put_back distance yield,
        lt-leb (nat_abs distance) yield h,
      )
