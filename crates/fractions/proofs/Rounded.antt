-- SPEC 2.7: rounding down and rounding up, what they mean over a denominator, and that each gives one whole number.
use mathlib.Core.Path.{◌≡◌, ap}
use mathlib.Core.List.{[], ◌∷◌}
use mathlib.Core.Logic.{◌↔◌}
use Prim.Native.Nat.{ℕ, ◌+◌, ◌-◌, ◌*◌, ◌/◌, ◌≤◌, ◌<◌}
use native.Mathlib.Nat.{mul-div-le, lt-mul-div-succ, mul-le-mul_left, lt_of_mul-lt-mul_left, le_dest, mul-one}
use native.Mathlib.Omega.{arith}
use lib.IntN.{ℤ, pos, negsuc, ◌+ℤ◌, ◌-ℤ◌}
use lib.Signed.{◌≤ℤ◌, shr_z}
use Rattle.fractions.specs.Fraction.{Frac, ◌≤F◌, ◌<F◌, ◌≈F◌, whole, ◌+F◌, ◌-F◌, times_f}
use Rattle.fractions.specs.Rounding.{Floor, floor_f, Ceiling}
use Rattle.fractions.proofs.UpDown.{up, dn, add_parts, sub-parts-ℤ, le_of_parts, lt_parts}
use Rattle.fractions.proofs.Order.{≤ℤ-antisym}
use Rattle.fractions.proofs.Common.{Is, is_own, is_whole, is_whole_one, is_shift, is_add, is_sub, is_times, is_le, is_lt, at-common}
use Rattle.fractions.proofs.Comparison.{≈F-refl, ≤F-of-≈F, ≈F-sym, ≤F-trans, ≤F-<F-trans, <F-≤F-trans, whole_le, whole_lt}

module _ {x : Frac} {p n d : ℕ} (i : Is x p n d) (z : ℤ) where
  next : d * up (z +ℤ pos 1) + d * dn z ≡ d * up z + d + d * dn (z +ℤ pos 1)
  next = omega (arith, ap (λ (k : ℕ). d * k) (add_parts z (pos 1)))

  last : d * up (z -ℤ pos 1) + d * dn z + d ≡ d * up z + d * dn (z -ℤ pos 1)
  last = omega (arith, ap (λ (k : ℕ). d * k) (sub-parts-ℤ z (pos 1)))

  pub is_floor : Floor x z ↔ ((d * up z + n ≤ p + d * dn z) × (p + d * dn z < d * up z + d + n))
  is_floor = (
    λ f. (omega (arith, (is_le (is_whole z i.some) i).0 f.below), omega (arith, (is_lt i (is_whole (z +ℤ pos 1) i.some)).0 f.above, next)),
    λ (l, h). record {
      below = (is_le (is_whole z i.some) i).1 (omega arith);
      above = (is_lt i (is_whole (z +ℤ pos 1) i.some)).1 (omega (arith, next));
    },
  )

  pub is_ceiling : Ceiling x z ↔ ((d * up z + n < p + d + d * dn z) × (p + d * dn z ≤ d * up z + n))
  is_ceiling = (
    λ f. (omega (arith, (is_lt (is_whole (z -ℤ pos 1) i.some) i).0 f.below, last), omega (arith, (is_le i (is_whole z i.some)).0 f.above)),
    λ (l, h). record {
      below = (is_lt (is_whole (z -ℤ pos 1) i.some) i).1 (omega (arith, last));
      above = (is_le i (is_whole z i.some)).1 (omega arith);
    },
  )

-- ---- Rounding is monotone, so that each fraction has one floor and one ceiling

pub floor_mono : {x x' : Frac} (y z : ℤ) → x ≤F x' → Floor x y → Floor x' z → y ≤ℤ z
floor_mono y z h f g =
    le_of_parts y z (omega (arith, lt_parts ((whole_lt y (z +ℤ pos 1)).0 (≤F-<F-trans (≤F-trans f.below h) g.above)), add_parts z (pos 1)))

pub ceiling_mono : {x x' : Frac} (y z : ℤ) → x ≤F x' → Ceiling x y → Ceiling x' z → y ≤ℤ z
ceiling_mono y z h f g =
    le_of_parts y z (omega (arith, lt_parts ((whole_lt (y -ℤ pos 1) z).0 (<F-≤F-trans f.below (≤F-trans h g.above))), sub-parts-ℤ y (pos 1)))

pub floor_unique : {x x' : Frac} (y z : ℤ) → x ≈F x' → Floor x y → Floor x' z → y ≡ z
floor_unique y z e f g = ≤ℤ-antisym (floor_mono y z (≤F-of-≈F e) f g) (floor_mono z y (≤F-of-≈F (≈F-sym e)) g f)

pub ceiling_unique : {x x' : Frac} (y z : ℤ) → x ≈F x' → Ceiling x y → Ceiling x' z → y ≡ z
ceiling_unique y z e f g = ≤ℤ-antisym (ceiling_mono y z (≤F-of-≈F e) f g) (ceiling_mono z y (≤F-of-≈F (≈F-sym e)) g f)

pub floor_same : {x x' : Frac} (z : ℤ) → x ≈F x' → Floor x z → Floor x' z
floor_same z e f =
    record { below = ≤F-trans f.below (≤F-of-≈F e); above = ≤F-<F-trans (≤F-of-≈F (≈F-sym e)) f.above }

pub ceiling_same : {x x' : Frac} (z : ℤ) → x ≈F x' → Ceiling x z → Ceiling x' z
ceiling_same z e f =
    record { below = <F-≤F-trans f.below (≤F-of-≈F e); above = ≤F-trans (≤F-of-≈F (≈F-sym e)) f.above }

-- A whole number is its own floor and its own ceiling.
pub whole_floor : (z : ℤ) → Floor (whole z) z
whole_floor z = (is_floor (is_whole_one z) z).1 (omega arith, omega arith)

pub whole_ceiling : (z : ℤ) → Ceiling (whole z) z
whole_ceiling z = (is_ceiling (is_whole_one z) z).1 (omega arith, omega arith)

-- A whole number lies at or below a fraction where it lies at or below its floor; at or above where at or above its ceiling.
pub floor_decides : {x : Frac} {z : ℤ} → Floor x z → (a : ℤ) → (whole a ≤F x) ↔ (a ≤ℤ z)
floor_decides {x} {z} f a =
    (λ h. floor_mono a z h (whole_floor a) f, λ h. ≤F-trans ((whole_le a z).1 h) f.below)

pub ceiling_decides : {x : Frac} {z : ℤ} → Ceiling x z → (a : ℤ) → (x ≤F whole a) ↔ (z ≤ℤ a)
ceiling_decides {x} {z} f a =
    (λ h. ceiling_mono z a h f (whole_ceiling a), λ h. ≤F-trans f.above ((whole_le z a).1 h))

-- The floor of a fraction of naturals is the quotient.
pub floor_quotient : {x : Frac} {p d : ℕ} → Is x p 0 d → Floor x (pos (p / d))
floor_quotient {x} {p} {d} i =
    (is_floor i (pos (p / d))).1 (omega (arith, mul-div-le p d), omega (arith, lt-mul-div-succ p i.some))

-- The number that `floor_f` computes is the floor.
pub floor_is : (x : Frac) → Floor x (floor_f x)
floor_is x = (is_floor (is_own x) (floor_f x)).1 (divided x.num x.den x.den_pos)
  where
    divided : (z : ℤ) (d : ℕ) → 0 < d → (d * up (shr_z z d) + dn z ≤ up z + d * dn (shr_z z d)) × (up z + d * dn (shr_z z d) < d * up (shr_z z d) + d + dn z)
    divided (pos a) d h = (omega (arith, mul-div-le a d), omega (arith, lt-mul-div-succ a h))
    divided (negsuc a) d h = (omega (arith, lt-mul-div-succ a h), omega (arith, mul-div-le a d))

pub floor_only : {x : Frac} (z : ℤ) → Floor x z → z ≡ floor_f x
floor_only {x} z f = floor_unique z (floor_f x) (≈F-refl x) f (floor_is x)

-- A natural passes a fraction where it passes its floor; what it has beyond the floor is what it has beyond the fraction, rounded up.
module _ {x : Frac} {R : ℕ} (f : Floor x (pos R)) (m : ℕ) where
  pub floor_passed : (x <F whole (pos m)) ↔ (R < m)
  floor_passed =
      at-common (x ∷ [])
      (λ d ((p, n, i), _).
      let (low, high) = (is_floor i (pos R)).0 f in (
        λ l. lt_of_mul-lt-mul_left d (omega (arith, (is_lt i (is_whole (pos m) i.some)).0 l)),
        λ l. (is_lt i (is_whole (pos m) i.some)).1 (omega (arith, mul-le-mul_left d l)),
      ))

  pub excess_ceiling : (a : ℕ) → R ≤ m → Ceiling (whole (pos a) +F (whole (pos m) -F x)) (pos (a + (m - R)))
  excess_ceiling a h = go (le_dest h)
    where
      go : (k : ℕ) × (R + k ≡ m) → Ceiling (whole (pos a) +F (whole (pos m) -F x)) (pos (a + (m - R)))
      go (k, e) =
          let rest : m - R ≡ k = omega arith in
          rw rest
          (at-common (x ∷ [])
          (λ d ((p, n, i), _).
          let (low, high) = (is_floor i (pos R)).0 f in
          let s = is_add (is_whole (pos a) i.some) (is_sub (is_whole (pos m) i.some) i) in
          (is_ceiling s (pos (a + k))).1 (omega (arith, ap (λ (n : ℕ). d * n) e), omega (arith, ap (λ (n : ℕ). d * n) e))))

-- A natural times t / e, rounded down, is a quotient.
pub floor_times : (k t e : ℕ) (h : 0 < e) → Floor (times_f (whole (pos k)) t e h) (pos (k * t / e))
floor_times k t e h = floor_quotient (rw mul-one at (is_shift (k * t) 0 (omega arith) (is_times t e h (is_whole_one (pos k)))))
