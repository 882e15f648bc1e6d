-- SPEC 2.5: the order of fractions is total and decidable, and "the same number" is an equivalence, whatever the denominators.
use mathlib.Core.List.{[], ◌∷◌}
use mathlib.Core.Bool.{true, false}
use mathlib.Core.Path.{◌≡◌}
use mathlib.Core.Logic.{◌↔◌, ◌⊎◌, inl, inr, ⊎_elim}
use Prim.Native.Nat.{ℕ, ◌+◌, ◌≤◌}
use native.Mathlib.Decide.{dec_le}
use native.Mathlib.Omega.{arith}
use lib.IntN.{ℤ}
use lib.Signed.{◌≤ℤ◌, ◌<ℤ◌, le_z_yes}
use Rattle.fractions.specs.Fraction.{Frac, ◌≤F◌, ◌<F◌, ◌≈F◌, le_f, whole}
use Rattle.fractions.proofs.UpDown.{equal_parts, le_parts, le_of_parts, lt_parts, lt_of_parts}
use Rattle.fractions.proofs.Common.{is_own, is_whole_one, is_le, is_lt, is_eq, AllOver, at-common, common}

pub ≤F-refl : (x : Frac) → x ≤F x
≤F-refl x = (is_le (is_own x) (is_own x)).1 (omega arith)

pub ≈F-refl : (x : Frac) → x ≈F x
≈F-refl x = (is_eq (is_own x) (is_own x)).1 (omega arith)

module _ {x y : Frac} where
  pub ≤F-of-<F : x <F y → x ≤F y
  ≤F-of-<F h = at-common (x ∷ y ∷ []) (λ d ((_, _, i), ((_, _, j), _)). (is_le i j).1 (omega (arith, (is_lt i j).0 h)))

  pub ≤F-of-≈F : x ≈F y → x ≤F y
  ≤F-of-≈F h = at-common (x ∷ y ∷ []) (λ d ((_, _, i), ((_, _, j), _)). (is_le i j).1 (omega (arith, (is_eq i j).0 h)))

  pub ≈F-sym : x ≈F y → y ≈F x
  ≈F-sym h = at-common (x ∷ y ∷ []) (λ d ((_, _, i), ((_, _, j), _)). (is_eq j i).1 (omega (arith, (is_eq i j).0 h)))

  pub ≤F-antisym : x ≤F y → y ≤F x → x ≈F y
  ≤F-antisym h k = at-common (x ∷ y ∷ []) (λ d ((_, _, i), ((_, _, j), _)). (is_eq i j).1 (omega (arith, (is_le i j).0 h, (is_le j i).0 k)))

  pub <F-not-≤F : x <F y → ¬ (y ≤F x)
  <F-not-≤F h k = at-common (x ∷ y ∷ []) (λ d ((_, _, i), ((_, _, j), _)). omega (arith, (is_lt i j).0 h, (is_le j i).0 k))

pub ≤F-or-<F : (x y : Frac) → (x ≤F y) ⊎ (y <F x)
≤F-or-<F x y = go (common (x ∷ y ∷ []))
  where
    go : {d : ℕ} → AllOver d (x ∷ y ∷ []) → (x ≤F y) ⊎ (y <F x)
    go ((p, n, i), ((q, m, j), _)) = side (dec_le (p + m) (q + n))
      where
        side : Dec (p + m ≤ q + n) → (x ≤F y) ⊎ (y <F x)
        side (yes h) = inl ((is_le i j).1 h)
        side (no h) = inr ((is_lt j i).1 (omega arith))

pub ≤F-of-not-<F : {x y : Frac} → ¬ (y <F x) → x ≤F y
≤F-of-not-<F {x} {y} h = ⊎_elim (λ l. l) (λ l. absurd (h l)) (≤F-or-<F x y)

pub <F-of-not-≤F : {x y : Frac} → ¬ (y ≤F x) → x <F y
<F-of-not-≤F {x} {y} h = ⊎_elim (λ l. absurd (h l)) (λ l. l) (≤F-or-<F y x)

pub ≤F-cases : {x y : Frac} → x ≤F y → (x <F y) ⊎ (x ≈F y)
≤F-cases {x} {y} h = go (≤F-or-<F y x)
  where
    go : (y ≤F x) ⊎ (x <F y) → (x <F y) ⊎ (x ≈F y)
    go (inl k) = inr (≤F-antisym h k)
    go (inr k) = inl k

-- The test says which of the two holds.
pub le_f_true : (x y : Frac) → le_f x y ≡ true → x ≤F y
unfolding le_f
le_f_true x y e = record { cross = le_z_yes (rw e tt) }

pub le_f_false : (x y : Frac) → le_f x y ≡ false → y <F x
unfolding le_f
le_f_false x y e = <F-of-not-≤F (λ h. rw e at h.cross.le)

module _ {x y z : Frac} where
  pub ≤F-trans : x ≤F y → y ≤F z → x ≤F z
  ≤F-trans g h = at-common (x ∷ y ∷ z ∷ [])
      (λ d ((_, _, i), ((_, _, j), ((_, _, k), _))). (is_le i k).1 (omega (arith, (is_le i j).0 g, (is_le j k).0 h)))

  pub <F-≤F-trans : x <F y → y ≤F z → x <F z
  <F-≤F-trans g h = at-common (x ∷ y ∷ z ∷ [])
      (λ d ((_, _, i), ((_, _, j), ((_, _, k), _))). (is_lt i k).1 (omega (arith, (is_lt i j).0 g, (is_le j k).0 h)))

  pub ≤F-<F-trans : x ≤F y → y <F z → x <F z
  ≤F-<F-trans g h = at-common (x ∷ y ∷ z ∷ [])
      (λ d ((_, _, i), ((_, _, j), ((_, _, k), _))). (is_lt i k).1 (omega (arith, (is_le i j).0 g, (is_lt j k).0 h)))

  pub ≈F-trans : x ≈F y → y ≈F z → x ≈F z
  ≈F-trans g h = at-common (x ∷ y ∷ z ∷ [])
      (λ d ((_, _, i), ((_, _, j), ((_, _, k), _))). (is_eq i k).1 (omega (arith, (is_eq i j).0 g, (is_eq j k).0 h)))

-- Whole numbers are compared as they were.
pub whole_le : (y z : ℤ) → (whole y ≤F whole z) ↔ (y ≤ℤ z)
whole_le y z =
    let i = is_whole_one y in
    let j = is_whole_one z in
    (λ h. le_of_parts y z (omega (arith, (is_le i j).0 h)), λ h. (is_le i j).1 (omega (arith, le_parts h)))

pub whole_lt : (y z : ℤ) → (whole y <F whole z) ↔ (y <ℤ z)
whole_lt y z =
    let i = is_whole_one y in
    let j = is_whole_one z in
    (λ h. lt_of_parts y z (omega (arith, (is_lt i j).0 h)), λ h. (is_lt i j).1 (omega (arith, lt_parts h)))

pub whole_eq : (y z : ℤ) → whole y ≈F whole z → y ≡ z
whole_eq y z h =
    equal_parts y z (omega (arith, (is_eq (is_whole_one y) (is_whole_one z)).0 h))
