-- SPEC 10.2: an unused rod and the unused bar are the same: within nought of one another.
use Prim.Native.Nat.{ℕ}
use lib.IntN.{ℤ, pos}
use Rattle.fractions.specs.Fraction.{◌≤F◌, whole}
use Rattle.fractions.proofs.Comparison.{≈F-refl}
use Rattle.fractions.proofs.Arithmetic.{within_none}
use Rattle.flow.specs.Side.{Side}
use Rattle.accuracy.proofs.Close.{LimitClose, IsotropicClose, KinematicClose, AsymmetricClose}

pub limit_starts : (side : Side) (A : ℕ) → side.yield ≤F whole (pos A) → LimitClose side 0 A (whole (pos A))
limit_starts side A p = record { past = p; exact_past = p; close = within_none (≈F-refl (side.limit (whole (pos A)))) }

pub isotropic_starts : (side : Side) (stress : ℤ) (A : ℕ) → side.yield ≤F whole (pos A) → IsotropicClose side 0 stress A (whole stress)
    (whole (pos A))
isotropic_starts side stress A p = record { stress_close = within_none (≈F-refl (whole stress)); limit_close = limit_starts side A p }

pub kinematic_starts : (stress X : ℤ) → KinematicClose 0 stress X (whole stress) (whole X)
kinematic_starts stress X = record { stress_close = within_none (≈F-refl (whole stress)); centre_close = within_none (≈F-refl (whole X)) }

pub asymmetric_starts : (tension compression : Side) (stress : ℤ) (A B : ℕ) → tension.yield ≤F whole (pos A) → compression.yield ≤F whole (pos B)
    → AsymmetricClose tension compression 0 stress A B (whole stress) (whole (pos A)) (whole (pos B))
asymmetric_starts tension compression stress A B p p' =
    record {
      stress_close = within_none (≈F-refl (whole stress));
      tension_close = limit_starts tension A p;
      compression_close = limit_starts compression B p';
    }
