-- The invariant of a history, law by law (SPEC 11.8): what lies within k of the bar's, a field for each quantity, and the abscissas past
-- their yields.
use Prim.Native.Nat.{ℕ}
use lib.IntN.{ℤ, pos}
use Rattle.fractions.specs.Fraction.{Frac, ◌≤F◌, whole, Within}
use Rattle.flow.specs.Side.{Side}

-- On one side: T at the stored abscissa and at the bar's own, both abscissas past the yield.
pub record LimitClose (side : Side) (k : ℕ) (A : ℕ) (exact : Frac) : Type 0 where
  pub past : side.yield ≤F whole (pos A)
  pub exact_past : side.yield ≤F exact
  pub close : Within k (side.limit (whole (pos A))) (side.limit exact)

-- Laws 0 and 1.
pub record IsotropicClose (side : Side) (k : ℕ) (stress : ℤ) (A : ℕ) (exact-stress exact-A : Frac) : Type 0 where
  pub stress_close : Within k (whole stress) exact-stress
  pub limit_close : LimitClose side k A exact-A

-- Law 2.
pub record KinematicClose (k : ℕ) (stress X : ℤ) (exact-stress exact-X : Frac) : Type 0 where
  pub stress_close : Within k (whole stress) exact-stress
  pub centre_close : Within k (whole X) exact-X

-- Law 3.
pub record AsymmetricClose (tension compression : Side) (k : ℕ) (stress : ℤ) (A B : ℕ) (exact-stress exact-A exact-B : Frac) : Type 0 where
  pub stress_close : Within k (whole stress) exact-stress
  pub tension_close : LimitClose tension k A exact-A
  pub compression_close : LimitClose compression k B exact-B
