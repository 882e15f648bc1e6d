-- Fractions, their order and what is computed with them (SPEC 2.4 to 2.6, 2.8): every statement that isn't about whole numbers alone cites
-- this file; definitions only, nothing is assumed.
use Rattle.std.specs.Prelude.{Bool, ◌≡◌, ℕ, zero, suc, ◌*◌, ◌<◌, ℤ, pos, negsuc, neg_ℤ, nat_abs, ◌+ℤ◌, ◌*ℤ◌, ◌≤ℤ◌, ◌<ℤ◌}
use Rattle.std.proofs.Common.{zero-le, suc-le-suc, mul-pos, lit<}
use Rattle.std.specs.Int.Signed.{le_z}

-- SPEC 2.5: a numerator of either sign over a denominator above 0. Each fraction has a denominator of its own, in lowest terms or not.
pub record Frac : Type 0 where
  pub num : ℤ
  pub den : ℕ
  pub den_pos : 0 < den

infix 50 ◌≤F◌ ◌<F◌ ◌≈F◌
infixl 60 ◌+F◌ ◌-F◌
infixl 70 ◌*F◌
-- SPEC 2.5: m / d ≤ n / e where e m ≤ d n. The three relations are records, so that a fact shows which two fractions it is about.
pub record ◌≤F◌ (x y : Frac) : Type 0 where
  pub cross : (pos y.den *ℤ x.num) ≤ℤ (pos x.den *ℤ y.num)

-- SPEC 2.5: m / d < n / e where e m < d n.
pub record ◌<F◌ (x y : Frac) : Type 0 where
  pub cross : (pos y.den *ℤ x.num) <ℤ (pos x.den *ℤ y.num)

-- SPEC 2.5: m / d and n / e are the same number where e m = d n.
pub record ◌≈F◌ (x y : Frac) : Type 0 where
  pub cross : pos y.den *ℤ x.num ≡ pos x.den *ℤ y.num

-- SPEC 2.5: the order as a test, which computes.
unfoldable pub le_f : Frac → Frac → Bool
le_f x y = le_z (pos y.den *ℤ x.num) (pos x.den *ℤ y.num)

-- SPEC 2.5: a whole number is itself over 1.
unfoldable pub whole : ℤ → Frac
whole z = record { num = z; den = 1; den_pos = lit< tt }

-- SPEC 2.5: a whole number over a natural one; over 0, which no use of it meets, it is the number itself.
abbrev pub ratio : ℤ → ℕ → Frac
ratio n zero = whole n
ratio n (suc d) = record { num = n; den = suc d; den_pos = suc-le-suc zero-le }

-- SPEC 2.6: the sum m / d + n / e = (e m + d n) / (d e).
unfoldable pub ◌+F◌ : Frac → Frac → Frac
x +F y =
    record {
      num = pos y.den *ℤ x.num +ℤ pos x.den *ℤ y.num;
      den = x.den * y.den;
      den_pos = mul-pos x.den_pos y.den_pos;
    }

-- SPEC 2.6: the negation -(n / d) = (-n) / d.
unfoldable pub neg_f : Frac → Frac
neg_f x = record { num = neg_ℤ x.num; den = x.den; den_pos = x.den_pos }

-- SPEC 2.6: a difference is a sum with the negation.
unfoldable pub ◌-F◌ : Frac → Frac → Frac
x -F y = x +F neg_f y

-- SPEC 2.6: the magnitude |n / d| = |n| / d.
unfoldable pub abs_f : Frac → Frac
abs_f x = record { num = pos (nat_abs x.num); den = x.den; den_pos = x.den_pos }

-- SPEC 2.4: a whole number with the sign of another one put before it; nought counts as positive.
abbrev pub signed : ℤ → ℤ → ℤ
signed (pos n) z = z
signed (negsuc n) z = neg_ℤ z

-- SPEC 2.4: the same of fractions, whose numerators carry the sign.
unfoldable pub signed_f : Frac → Frac → Frac
signed_f s x = record { num = signed s.num x.num; den = x.den; den_pos = x.den_pos }

-- SPEC 2.6: n / d times the ratio t / e of two naturals is (t n) / (e d).
unfoldable pub times_f : Frac → (t e : ℕ) → 0 < e → Frac
times_f x t e h = record { num = pos t *ℤ x.num; den = e * x.den; den_pos = mul-pos h x.den_pos }

-- SPEC 2.6: the product (m / d) (n / e) = (m n) / (d e).
unfoldable pub ◌*F◌ : Frac → Frac → Frac
x *F y = record { num = x.num *ℤ y.num; den = x.den * y.den; den_pos = mul-pos x.den_pos y.den_pos }

-- SPEC 2.8: two fractions lie within k of one another, |x - y| ≤ k.
pub record Within (k : ℕ) (x y : Frac) : Type 0 where
  pub within : abs_f (x -F y) ≤F whole (pos k)
