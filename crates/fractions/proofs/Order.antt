-- The order of the whole numbers: a total, decidable order that sums, negations and positive factors respect.
use mathlib.Core.Path.{◌≡◌}
use mathlib.Core.Logic.{◌⊎◌, inl, inr}
use Prim.Native.Nat.{ℕ, ◌+◌, ◌≤◌, ◌<◌}
use native.Mathlib.Nat.{mul-le-mul_left, le_of_mul-le-mul_left}
use native.Mathlib.Decide.{dec_le, map_dec}
use native.Mathlib.Omega.{arith}
use lib.IntN.{ℤ, pos, neg_ℤ, ◌+ℤ◌, ◌*ℤ◌}
use lib.Signed.{◌≤ℤ◌, ◌<ℤ◌}
use Rattle.fractions.proofs.UpDown.{up, dn, equal_parts, add_parts, neg_parts, times_parts, le_parts, le_of_parts, lt_parts, lt_of_parts}

pub ≤ℤ-trans : {x y z : ℤ} → x ≤ℤ y → y ≤ℤ z → x ≤ℤ z
≤ℤ-trans {x} {y} {z} h k = le_of_parts x z (omega (arith, le_parts h, le_parts k))

pub ≤ℤ-antisym : {x y : ℤ} → x ≤ℤ y → y ≤ℤ x → x ≡ y
≤ℤ-antisym {x} {y} h k = equal_parts x y (omega (arith, le_parts h, le_parts k))

pub ≤ℤ-of-<ℤ : {x y : ℤ} → x <ℤ y → x ≤ℤ y
≤ℤ-of-<ℤ {x} {y} h = le_of_parts x y (omega (arith, lt_parts h))

pub ≤ℤ-or-<ℤ : (x y : ℤ) → (x ≤ℤ y) ⊎ (y <ℤ x)
≤ℤ-or-<ℤ x y = go (dec_le (up x + dn y) (up y + dn x))
  where
    go : Dec (up x + dn y ≤ up y + dn x) → (x ≤ℤ y) ⊎ (y <ℤ x)
    go (yes h) = inl (le_of_parts x y h)
    go (no h) = inr (lt_of_parts y x (omega arith))

pub ≤ℤ-dec : (x y : ℤ) → Dec (x ≤ℤ y)
≤ℤ-dec x y = map_dec (le_of_parts x y) le_parts (dec_le (up x + dn y) (up y + dn x))

pub +ℤ-mono : {w x y z : ℤ} → w ≤ℤ x → y ≤ℤ z → (w +ℤ y) ≤ℤ (x +ℤ z)
+ℤ-mono {w} {x} {y} {z} h k = le_of_parts (w +ℤ y) (x +ℤ z) (omega (arith, le_parts h, le_parts k, add_parts w y, add_parts x z))

pub negℤ-mono : {x y : ℤ} → x ≤ℤ y → neg_ℤ y ≤ℤ neg_ℤ x
negℤ-mono {x} {y} h = le_of_parts (neg_ℤ y) (neg_ℤ x) (omega (arith, le_parts h, neg_parts x, neg_parts y))

pub times_mono : (d : ℕ) {x y : ℤ} → x ≤ℤ y → (pos d *ℤ x) ≤ℤ (pos d *ℤ y)
times_mono d {x} {y} h = le_of_parts (pos d *ℤ x) (pos d *ℤ y) (omega (arith, mul-le-mul_left d (le_parts h), times_parts d x, times_parts d y))

pub times_cancel : {d : ℕ} → 0 < d → (x y : ℤ) → (pos d *ℤ x) ≤ℤ (pos d *ℤ y) → x ≤ℤ y
times_cancel {d} p x y h =
    le_of_parts x y (le_of_mul-le-mul_left {k = d} (omega (arith, le_parts h, times_parts d x, times_parts d y)) p)
