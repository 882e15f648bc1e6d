-- The magnitude of a number that lies within a range.
use Prim.Native.Nat.{ℕ, zero, suc, ◌≤◌}
use mathlib.Core.Path.{◌≡◌, refl, sym, ap, ◌∙◌}
use mathlib.Core.Bool.{Bool, true, ◌&&◌, and-true, false≢true}
use borrow.Author.Tests.{leb-true}
use native.Mathlib.Omega.{arith}
use lib.IntN.{ℤ, pos, negsuc, neg_ℤ, nat_abs}
use lib.Dec.{leb, leb-zero, leb-suc-zero, leb-suc-suc}
use lib.Signed.{le_z, mag}
use Rattle.refusals.proofs.FirstLaws.{both_hold}
use Rattle.bits.specs.Field.{withinℤ}
use Rattle.ranges.specs.Ranges.{around, temperature_right}

-- A number from -least to most is not greater than the greater of the two, whatever its sign.
within_magnitude : (least most : ℕ) (z : ℤ) → withinℤ (neg_ℤ (pos least)) (pos most) z ≡ true → least ≤ most → nat_abs z ≤ most
within_magnitude least most (pos n) e h = leb-true n most (both_hold (le_z (neg_ℤ (pos least)) (pos n)) (leb n most) e).1
within_magnitude zero most (negsuc n) e h = absurd (false≢true e)
within_magnitude (suc k) most (negsuc n) e h = omega (arith, leb-true n k (both_hold (leb n k) true e).0)

pub around_magnitude : (m : ℕ) (z : ℤ) → around m z ≡ true → nat_abs z ≤ m
around_magnitude m z e = within_magnitude m m z e (omega arith)

pub temperature_magnitude : (t : ℤ) → temperature_right t ≡ true → nat_abs t ≤ 20000
temperature_magnitude t e = within_magnitude 2000 20000 t e (omega arith)

-- The bits that hold a magnitude hold the number.
pub mag_at_most : (z : ℤ) → mag z ≤ nat_abs z
mag_at_most (pos n) = omega arith
mag_at_most (negsuc n) = omega arith

-- A number lies around zero exactly where its magnitude is not greater.
pub around_is : (m : ℕ) (z : ℤ) → around m z ≡ leb (nat_abs z) m
around_is zero (pos n) = ap (λ (t : Bool). t && leb n 0) (leb-zero n)
around_is (suc k) (pos n) = refl
around_is zero (negsuc n) = sym (leb-suc-zero n)
around_is (suc k) (negsuc n) = and-true (leb n k) ∙ sym (leb-suc-suc n k)
