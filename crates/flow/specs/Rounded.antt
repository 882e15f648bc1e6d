-- What is stored of a candidate that meets the conditions from whole numbers (SPEC 7.1 to 7.5), cited by response/specs/Solved, which asks
-- it of every such candidate; definitions only, nothing is assumed.
use Rattle.std.specs.Prelude.{◌≡◌, ℕ, ℤ, pos, neg_ℤ, ◌+ℤ◌, ◌-ℤ◌}
use Rattle.fractions.specs.Fraction.{Frac, ◌≤F◌, ◌<F◌, ◌≈F◌, whole, ◌-F◌, abs_f, signed}
use Rattle.fractions.specs.Rounding.{Floor, Ceiling}
use Rattle.flow.specs.Side.{Side, accumulated}

-- SPEC 7.2, 7.5: where p grew, the stored abscissa is the candidate's rounded up, and else the candidate's own.
pub record AbscissaRounded (side : Side) (A B : Frac) (stored : ℤ) : Type 0 where
  pub grown : accumulated side A <F accumulated side B → Ceiling B stored
  pub still : accumulated side B ≤F accumulated side A → B ≈F whole stored

-- SPEC 7.2: R is T at the stored abscissa, rounded down.
pub record LimitRounded (side : Side) (stored : ℤ) (R : ℕ) : Type 0 where
  pub floor : Floor (side.limit (whole stored)) (pos R)

-- SPEC 7.2, 7.5, isotropic, for the candidate (q, B): the stress is that R behind the trial's sign, so that what is rounded is the
-- magnitude; where nothing grew it is the candidate's own.
pub record IsotropicRounded (side : Side) (trial : ℤ) (A q B : Frac) (stress stored : ℤ) : Type 0 where
  pub abscissa : AbscissaRounded side A B stored
  pub grown : accumulated side A <F accumulated side B → (R : ℕ) × LimitRounded side stored R × (stress ≡ signed trial (pos R))
  pub still : accumulated side B ≤F accumulated side A → q ≈F whole stress

-- SPEC 7.3, 7.5, kinematic, for the candidate (q, X', growth): the stored centre moves toward the trial by as much as the
-- candidate's moved, rounded down to whole grains, and the stress is one radius ahead of it; where nothing grew both are the candidate's own.
pub record KinematicRounded (yield : ℕ) (trial X : ℤ) (q X' growth : Frac) (stress stored : ℤ) : Type 0 where
  pub grown : whole (pos 0) <F growth
      → (move : ℕ) × Floor (abs_f (X' -F whole X)) (pos move) × (stored ≡ X +ℤ signed (trial -ℤ X) (pos move))
      × (stress ≡ stored +ℤ signed (trial -ℤ X) (pos yield))
  pub still : growth ≤F whole (pos 0) → (X' ≈F whole stored) × (q ≈F whole stress)

-- SPEC 7.4, 7.5, asymmetric, for the candidate (q, A', B'): the side that flowed as in the isotropic law, the other one as it was.
pub record AsymmetricRounded (tension compression : Side) (A B q A' B' : Frac) (stress stored_a stored_b : ℤ) : Type 0 where
  pub tension_abscissa : AbscissaRounded tension A A' stored_a
  pub compression_abscissa : AbscissaRounded compression B B' stored_b
  pub tension_grown : accumulated tension A <F accumulated tension A' → (R : ℕ) × LimitRounded tension stored_a R × (stress ≡ pos R)
  pub compression_grown : accumulated compression B <F accumulated compression B'
      → (R : ℕ) × LimitRounded compression stored_b R × (stress ≡ neg_ℤ (pos R))
  pub still : accumulated tension A' ≤F accumulated tension A → accumulated compression B' ≤F accumulated compression B → q ≈F whole stress
