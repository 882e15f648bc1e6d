-- The limits that a step is handed, and those after it.
use Prim.Native.Nat.{ℕ, zero, suc, ◌*◌, ◌≤◌, ◌<◌, min}
use mathlib.Core.Path.{◌≡◌, refl, sym, ap, ◌∙◌}
use mathlib.Core.Bool.{Bool, true, false, true≢false, cond}
use mathlib.Core.Logic.{inl, inr}
use native.Mathlib.Nat.{le-div_iff_mul-le, mul-le-mul}
use native.Mathlib.Omega.{arith}
use borrow.Author.Tests.{leb-false}
use lib.IntN.{ℤ, pos, negsuc, nat_abs}
use lib.Dec.{leb}
use Rattle.fractions.specs.Fraction.{signed}
use Rattle.fractions.proofs.Cases.{cond_cases}
use Rattle.law.specs.declared.Law.{Law}
use Rattle.law.specs.declared.Law.TheVariants.{IsotropicLine, IsotropicCurve, Kinematic, Asymmetric}
use Rattle.units.specs.declared.Magnitude.{Magnitude}
use Rattle.units.specs.Kinds.{magnitude}
use Rattle.units.specs.Signs.{is_neg}
use Rattle.curve.specs.declared.Side.{Side}
use Rattle.curve.specs.Curve.{Curve, height, limit_at}
use Rattle.curve.specs.Sides.{curve_of}
use Rattle.sheet.specs.declared.Sheet.{Sheet}
use Rattle.sheet.specs.Sound.{SheetSound}
use Rattle.flow.specs.Stored.{SideStored, side_stored, isotropic_stored}
use Rattle.response.specs.declared.Limits.{Limits}
use Rattle.response.specs.Response.{Moved, isotropic_moved, asymmetric_outcome, outcome_under, outcome_of}
use Rattle.response.specs.Limits.{limit_on, limits, limits_under, limits_of, limits_after}
use Rattle.response.proofs.Places.{IsIsotropic}

pub isotropic_limits : {law : Law} (h : Sheet) (first second : ℤ) → IsIsotropic law
    → limits_under law h first second ≡ limits (limit_on h.modulus.0 h.tension first) (magnitude 0)
isotropic_limits h first second (inl is) = rw is
isotropic_limits h first second (inr is) = rw is

pub isotropic_after : {law : Law} (stress : ℤ) (l : Limits) → IsIsotropic law → limits_after law true stress l ≡ limits (magnitude (nat_abs stress)) l.second
isotropic_after stress l (inl is) = rw is
isotropic_after stress l (inr is) = rw is

-- A pair that didn't yield leaves them.
pub limits_stay : (law : Law) (stress : ℤ) (l : Limits) → limits_after law false stress l ≡ l
limits_stay IsotropicLine stress l = refl
limits_stay IsotropicCurve stress l = refl
limits_stay Kinematic stress l = refl
limits_stay Asymmetric stress l = refl

-- A limit isn't 0 past the start of the curve.
limit_some : (E : ℕ) (c : Curve) (a : ℕ) → 0 < E → 0 < c.yield → 0 < a → 0 < limit_at E c a
unfolding limit_at height
limit_some E c a some yields past =
    let m = min a c.yield in
    let least : 1 ≤ m = omega arith in
    let grown : E * 1 ≤ E * m = mul-le-mul {n₁ = E} {m₁ = 1} {n₂ = E} {m₂ = m} (omega arith) least in
    (le-div_iff_mul-le some).1 (omega (arith, grown))

-- One side: where it flowed, the stress that it leaves has the magnitude of the new limit.
record SideReached (limit : ℕ → ℕ) (A : ℕ) (s : SideStored) : Type 0 where
  still : s.yielded ≡ false → s.abscissa ≡ A
  flowed : s.yielded ≡ true → (s.magnitude ≡ limit s.abscissa) × (0 < s.abscissa)

side_reached : (limit : ℕ → ℕ) (trial A : ℕ) → SideReached limit A (side_stored limit trial A)
unfolding side_stored
side_reached limit trial A =
    cond_cases (SideReached limit A) (leb trial (limit A)) _ _
    (λ e. record { still = λ z. refl; flowed = λ z. absurd (true≢false (sym z)) })
    (λ e. record { still = λ z. absurd (true≢false z); flowed = λ z. (refl, omega (arith, leb-false trial (limit A) e)) })

pub magnitude_signed : (s : ℤ) (n : ℕ) → nat_abs (signed s (pos n)) ≡ n
magnitude_signed (pos m) n = refl
magnitude_signed (negsuc m) zero = refl
magnitude_signed (negsuc m) (suc n) = refl

below_zero : (m n : ℕ) → 0 < n → is_neg (signed (negsuc m) (pos n)) ≡ true
below_zero m zero h = absurd (omega arith)
below_zero m (suc n) h = refl

module _ (E : ℕ) (side : Side) (abscissa trial : ℤ) where
  abbrev moved : Moved
  moved = isotropic_moved E (curve_of side) abscissa trial

  abbrev stored : SideStored
  stored = side_stored (limit_at E (curve_of side)) (nat_abs trial) (nat_abs abscissa)

  still_limit : moved.yielded ≡ false → limit_on E side moved.variable ≡ limit_on E side abscissa
  unfolding isotropic_moved isotropic_stored
  still_limit e = ap (λ (a : ℕ). magnitude (limit_at E (curve_of side) a)) ((side_reached (limit_at E (curve_of side)) (nat_abs trial) (nat_abs abscissa)).still e)

  flowed_limit : moved.yielded ≡ true → limit_on E side moved.variable ≡ magnitude (nat_abs moved.stress)
  unfolding isotropic_moved isotropic_stored
  flowed_limit e =
      ap magnitude (sym ((side_reached (limit_at E (curve_of side)) (nat_abs trial) (nat_abs abscissa)).flowed e).0 ∙ sym (magnitude_signed trial stored.magnitude))

  flowed_some : 0 < E → 0 < (curve_of side).yield → moved.yielded ≡ true → 0 < stored.magnitude
  unfolding isotropic_moved isotropic_stored
  flowed_some some yields e =
      let flowed = (side_reached (limit_at E (curve_of side)) (nat_abs trial) (nat_abs abscissa)).flowed e in
      rw flowed.0 (limit_some E (curve_of side) stored.abscissa some yields flowed.1)

negative_stress : (E : ℕ) (side : Side) (abscissa : ℤ) (n : ℕ) → 0 < E → 0 < (curve_of side).yield
    → (isotropic_moved E (curve_of side) abscissa (negsuc n)).yielded ≡ true → is_neg (isotropic_moved E (curve_of side) abscissa (negsuc n)).stress ≡ true
unfolding isotropic_moved isotropic_stored
negative_stress E side abscissa n some yields e =
    below_zero n (stored E side abscissa (negsuc n)).magnitude (flowed_some E side abscissa (negsuc n) some yields e)

-- The first limit after a pair, beside any other,
first_kept : (E : ℕ) (side : Side) (abscissa trial : ℤ) (other : Magnitude) (t : Bool) → let m = isotropic_moved E (curve_of side) abscissa trial in
    m.yielded ≡ t
    → limits (limit_on E side m.variable) other ≡ cond t (limits (magnitude (nat_abs m.stress)) other) (limits (limit_on E side abscissa) other)
first_kept E side abscissa trial other true e = ap (λ (m : Magnitude). limits m other) (flowed_limit E side abscissa trial e)
first_kept E side abscissa trial other false e = ap (λ (m : Magnitude). limits m other) (still_limit E side abscissa trial e)

-- and the second, where the trial is below zero, and so the stress if it flowed.
second_kept : (E : ℕ) (side : Side) (abscissa : ℤ) (n : ℕ) (other another : Magnitude) (t : Bool) → 0 < E → 0 < (curve_of side).yield
    → let m = isotropic_moved E (curve_of side) abscissa (negsuc n) in
    m.yielded ≡ t
    → limits other (limit_on E side m.variable)
    ≡ cond t (cond (is_neg m.stress) (limits other (magnitude (nat_abs m.stress))) (limits (magnitude (nat_abs m.stress)) another)) (limits other (limit_on E side abscissa))
second_kept E side abscissa n other another true some yields e =
    let m = isotropic_moved E (curve_of side) abscissa (negsuc n) in
    ap (limits other) (flowed_limit E side abscissa (negsuc n) e)
    ∙ ap (λ (b : Bool). cond b (limits other (magnitude (nat_abs m.stress))) (limits (magnitude (nat_abs m.stress)) another)) (sym (negative_stress E side abscissa n some yields e))
second_kept E side abscissa n other another false some yields e = ap (limits other) (still_limit E side abscissa (negsuc n) e)

-- The limits after a pair.
module _ (h : Sheet) (sound : SheetSound h) (first second : ℤ) where
  kept_under : (law : Law) (trial : ℤ) → h.law ≡ law → let o = outcome_under law h first second trial in
      limits_under law h o.first o.second ≡ limits_after law o.yielded o.stress (limits_under law h first second)
  unfolding outcome_under asymmetric_outcome isotropic_moved isotropic_stored curve_of
  kept_under IsotropicLine trial is = first_kept h.modulus.0 h.tension first trial (magnitude 0) _ refl
  kept_under IsotropicCurve trial is = first_kept h.modulus.0 h.tension first trial (magnitude 0) _ refl
  kept_under Kinematic trial is = refl
  kept_under Asymmetric (pos m) is = first_kept h.modulus.0 h.tension first (pos m) (limit_on h.modulus.0 h.compression second) _ refl
  kept_under Asymmetric (negsuc n) is =
      second_kept h.modulus.0 h.compression second n (limit_on h.modulus.0 h.tension first) _ _ sound.modulus_least
      (omega (arith, (sound.compression is).yield_least)) refl

  pub limits_kept : (trial : ℤ) → let o = outcome_of h first second trial in
      limits_of h o.first o.second ≡ limits_after h.law o.yielded o.stress (limits_of h first second)
  limits_kept trial = kept_under h.law trial refl
