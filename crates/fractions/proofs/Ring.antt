-- The whole numbers are a ring: what lib.IntN leaves out. `simp ring` brings both sides of an equation to one form.
use mathlib.Core.Path.{◌≡◌, sym, ◌∙◌, ap}
use Prim.Native.Nat.{ℕ, ◌*◌}
use native.Mathlib.Omega.{arith}
use lib.IntN.{ℤ, neg_ℤ, ◌+ℤ◌, ◌*ℤ◌, *ℤ_comm, +ℤ_comm, +ℤ_assoc, neg_ℤ-+ℤ, neg_ℤ-neg_ℤ}
use Rattle.fractions.proofs.UpDown.{up, dn, equal_parts, add_parts, neg_parts, mul_parts}

pub *ℤ-+ℤ : (x y z : ℤ) → x *ℤ (y +ℤ z) ≡ x *ℤ y +ℤ x *ℤ z
*ℤ-+ℤ x y z =
    equal_parts (x *ℤ (y +ℤ z)) (x *ℤ y +ℤ x *ℤ z)
    (omega (
      arith,
      mul_parts x (y +ℤ z),
      mul_parts x y,
      mul_parts x z,
      add_parts (x *ℤ y) (x *ℤ z),
      ap (λ (n : ℕ). up x * n) (add_parts y z),
      ap (λ (n : ℕ). dn x * n) (add_parts y z),
    ))

pub +ℤ-*ℤ : (x y z : ℤ) → (x +ℤ y) *ℤ z ≡ x *ℤ z +ℤ y *ℤ z
+ℤ-*ℤ x y z = rw (*ℤ_comm (x +ℤ y) z, *ℤ_comm x z, *ℤ_comm y z) (*ℤ-+ℤ z x y)

pub *ℤ-neg : (x y : ℤ) → x *ℤ neg_ℤ y ≡ neg_ℤ (x *ℤ y)
*ℤ-neg x y =
    equal_parts (x *ℤ neg_ℤ y) (neg_ℤ (x *ℤ y))
    (omega (
      arith,
      mul_parts x (neg_ℤ y),
      mul_parts x y,
      neg_parts (x *ℤ y),
      ap (λ (n : ℕ). up x * n) (neg_parts y).0,
      ap (λ (n : ℕ). up x * n) (neg_parts y).1,
      ap (λ (n : ℕ). dn x * n) (neg_parts y).0,
      ap (λ (n : ℕ). dn x * n) (neg_parts y).1,
    ))

pub neg-*ℤ : (x y : ℤ) → neg_ℤ x *ℤ y ≡ neg_ℤ (x *ℤ y)
neg-*ℤ x y = rw (*ℤ_comm (neg_ℤ x) y, *ℤ_comm x y) (*ℤ-neg y x)

pub *ℤ-assoc : (x y z : ℤ) → x *ℤ y *ℤ z ≡ x *ℤ (y *ℤ z)
*ℤ-assoc x y z =
    equal_parts (x *ℤ y *ℤ z) (x *ℤ (y *ℤ z))
    (omega (
      arith,
      mul_parts (x *ℤ y) z,
      mul_parts x (y *ℤ z),
      ap (λ (n : ℕ). up x * n) (mul_parts y z),
      ap (λ (n : ℕ). dn x * n) (mul_parts y z),
      ap (λ (n : ℕ). n * up z) (mul_parts x y),
      ap (λ (n : ℕ). n * dn z) (mul_parts x y),
    ))

pub *ℤ-left-comm : (x y z : ℤ) → x *ℤ (y *ℤ z) ≡ y *ℤ (x *ℤ z)
*ℤ-left-comm x y z = sym (*ℤ-assoc x y z) ∙ rw (*ℤ_comm x y) (*ℤ-assoc y x z)

pub +ℤ-left-comm : (x y z : ℤ) → x +ℤ (y +ℤ z) ≡ y +ℤ (x +ℤ z)
+ℤ-left-comm x y z = sym (+ℤ_assoc x y z) ∙ rw (+ℤ_comm x y) (+ℤ_assoc y x z)

pub ruleset ring = (+ℤ-*ℤ, *ℤ-+ℤ, neg-*ℤ, *ℤ-neg, neg_ℤ-+ℤ, neg_ℤ-neg_ℤ, *ℤ-assoc, *ℤ_comm, *ℤ-left-comm, +ℤ_assoc, +ℤ_comm, +ℤ-left-comm)
