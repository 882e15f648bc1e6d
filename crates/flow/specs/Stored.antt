-- What a pair leaves stored, law by law, as it is computed from whole numbers (SPEC 7.11), cited by response, and for law 3 by its theorems;
-- definitions only, nothing is assumed. `limit` reads T rounded down at a whole abscissa; proofs/*Rounding show that the numbers are the
-- roundings of SPEC 7.2 to 7.5.
use Rattle.std.specs.Prelude.{Bool, true, false, cond, ℕ, suc, ◌+◌, ◌-◌, ◌*◌, ◌/◌, leb, ℤ, pos, negsuc, neg_ℤ, nat_abs, ◌+ℤ◌, ◌-ℤ◌}
use Rattle.fractions.specs.Fraction.{signed}

-- SPEC 7.11, one side: whether it flowed, the magnitude of the stress and the abscissa.
pub record SideStored : Type 0 where
  pub yielded : Bool
  pub magnitude : ℕ
  pub abscissa : ℕ

-- SPEC 7.11: up to the limit nothing moves; past it the abscissa grows by the excess, and the magnitude is the limit there.
unfoldable pub side_stored : (limit : ℕ → ℕ) → (trial A : ℕ) → SideStored
side_stored limit trial A =
    let A' = A + (trial - limit A) in
    cond (leb trial (limit A)) (record { yielded = false; magnitude = trial; abscissa = A })
    (record { yielded = true; magnitude = limit A'; abscissa = A' })

-- SPEC 7.11, isotropic: whether the rod yielded, its stress and its abscissa.
pub record IsotropicStored : Type 0 where
  pub yielded : Bool
  pub stress : ℤ
  pub abscissa : ℕ

-- SPEC 7.11: the side on magnitudes, and the sign of the trial put back.
unfoldable pub isotropic_stored : (limit : ℕ → ℕ) → (trial : ℤ) → (A : ℕ) → IsotropicStored
isotropic_stored limit trial A =
    let side = side_stored limit (nat_abs trial) A in
    record { yielded = side.yielded; stress = signed trial (pos side.magnitude); abscissa = side.abscissa }

-- SPEC 7.11, kinematic: whether the rod yielded, its stress and its centre.
pub record KinematicStored : Type 0 where
  pub yielded : Bool
  pub stress : ℤ
  pub centre : ℤ

-- SPEC 7.11: past the radius the centre moves toward the trial by t / E of the excess, rounded down; the stress is one radius ahead of it.
unfoldable pub kinematic_stored : (E tangent yield : ℕ) → (trial X : ℤ) → KinematicStored
kinematic_stored E tangent yield trial X =
    let s = trial -ℤ X in
    let X' = X +ℤ signed s (pos ((nat_abs s - yield) * tangent / E)) in
    cond (leb (nat_abs s) yield) (record { yielded = false; stress = trial; centre = X })
    (record { yielded = true; stress = X' +ℤ signed s (pos yield); centre = X' })

-- SPEC 7.11, asymmetric: whether the rod yielded, its stress and the abscissas of both sides.
pub record AsymmetricStored : Type 0 where
  pub yielded : Bool
  pub stress : ℤ
  pub tension : ℕ
  pub compression : ℕ

-- SPEC 7.11: the side of the trial's sign, on magnitudes; the other one stays as it was.
unfoldable pub asymmetric_stored : (limit_t limit_c : ℕ → ℕ) → (trial : ℤ) → (A B : ℕ) → AsymmetricStored
asymmetric_stored limit_t limit_c (pos m) A B =
    let side = side_stored limit_t m A in
    record { yielded = side.yielded; stress = pos side.magnitude; tension = side.abscissa; compression = B }
asymmetric_stored limit_t limit_c (negsuc n) A B =
    let side = side_stored limit_c (suc n) B in
    record { yielded = side.yielded; stress = neg_ℤ (pos side.magnitude); tension = A; compression = side.abscissa }
