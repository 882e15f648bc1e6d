-- SPEC 2.4: magnitudes and signs apart and back, and sums of numbers of one sign.
use mathlib.Core.Path.{refl}
use mathlib.Core.List.{[], ◌∷◌}
use mathlib.Core.Logic.{◌↔◌, ◌⊎◌, inl, inr, ⊎_elim}
use Prim.Native.Nat.{ℕ, ◌≤◌, ◌<◌}
use native.Mathlib.Decide.{dec_le}
use native.Mathlib.Omega.{arith}
use lib.IntN.{pos}
use Rattle.fractions.specs.Fraction.{Frac, ◌≤F◌, ◌<F◌, ◌≈F◌, whole, ◌+F◌, ◌-F◌, abs_f, signed_f, times_f, neg_f}
use Rattle.fractions.proofs.Common.{Is, is_whole, is_add, is_sub, is_abs, is_signed_up, is_signed_dn, is_times, is_le, is_lt, is_eq, at-common, is_own, is_negated}

-- The magnitude with the sign put back.
pub signed_abs : (x : Frac) → signed_f x (abs_f x) ≈F x
signed_abs x = at-common (x ∷ []) (λ d ((p, n, i), _). go p n d i (dec_le n p))
  where
    go : (p n d : ℕ) → Is x p n d → Dec (n ≤ p) → signed_f x (abs_f x) ≈F x
    go p n d i (yes h) = (is_eq (is_signed_up i h (is_abs i)) i).1 (omega arith)
    go p n d i (no h) = (is_eq (is_signed_dn i (omega arith) (is_abs i)) i).1 (omega arith)

-- The magnitude of a number that has had a sign put before it.
pub abs_signed : (s : Frac) {m : Frac} → whole (pos 0) ≤F m → abs_f (signed_f s m) ≈F m
abs_signed s {m} h = at-common (s ∷ m ∷ []) (λ d ((p, n, i), ((u, v, j), _)). go p n u v d i j (dec_le n p))
  where
    go : (p n u v d : ℕ) → Is s p n d → Is m u v d → Dec (n ≤ p) → abs_f (signed_f s m) ≈F m
    go p n u v d i j (yes l) = (is_eq (is_abs (is_signed_up i l j)) j).1 (omega (arith, (is_le (is_whole (pos 0) i.some) j).0 h))
    go p n u v d i j (no l) = (is_eq (is_abs (is_signed_dn i (omega arith) j)) j).1 (omega (arith, (is_le (is_whole (pos 0) i.some) j).0 h))

-- A difference that has the sign of the second number: the magnitudes add up, and the sum has that sign too.
module _ (s q : Frac) {g : Frac} (h : whole (pos 0) ≤F g) (e : (s -F q) ≈F signed_f q g) where
  pub like_signs_abs : abs_f s ≈F (abs_f q +F g)
  like_signs_abs = at-common (s ∷ q ∷ g ∷ []) (λ d ((_, _, i), ((p, n, j), ((_, _, k), _))). go p n d _ _ _ _ i j k (dec_le n p))
    where
      go : (p n d p' n' u v : ℕ) → Is s p' n' d → Is q p n d → Is g u v d → Dec (n ≤ p) → abs_f s ≈F (abs_f q +F g)
      go p n d p' n' u v i j k (yes l) =
          (is_eq (is_abs i) (is_add (is_abs j) k)).1
          (omega (arith, (is_le (is_whole (pos 0) i.some) k).0 h, (is_eq (is_sub i j) (is_signed_up j l k)).0 e))
      go p n d p' n' u v i j k (no l) =
          let m : p < n = omega arith in
          (is_eq (is_abs i) (is_add (is_abs j) k)).1
          (omega (arith, (is_le (is_whole (pos 0) i.some) k).0 h, (is_eq (is_sub i j) (is_signed_dn j m k)).0 e))

  pub like_signs_sign : q ≈F signed_f s (abs_f q)
  like_signs_sign = at-common (s ∷ q ∷ g ∷ []) (λ d ((_, _, i), ((p, n, j), ((_, _, k), _))). go p n d _ _ _ _ i j k (dec_le n p))
    where
      go : (p n d p' n' u v : ℕ) → Is s p' n' d → Is q p n d → Is g u v d → Dec (n ≤ p) → q ≈F signed_f s (abs_f q)
      go p n d p' n' u v i j k (yes l) =
          let f = (is_eq (is_sub i j) (is_signed_up j l k)).0 e in
          (is_eq j (is_signed_up i (omega (arith, (is_le (is_whole (pos 0) i.some) k).0 h)) (is_abs j))).1 (omega arith)
      go p n d p' n' u v i j k (no l) =
          let m : p < n = omega arith in
          let f = (is_eq (is_sub i j) (is_signed_dn j m k)).0 e in
          (is_eq j (is_signed_dn i (omega (arith, (is_le (is_whole (pos 0) i.some) k).0 h)) (is_abs j))).1 (omega arith)

-- A magnitude m above nought with the sign of s, where |s| is m and g together: the rest has the same sign.
pub signed_rest : (s : Frac) {m : Frac} (g : Frac) → whole (pos 0) <F m → abs_f s ≈F (m +F g) → (s -F signed_f s m) ≈F signed_f (signed_f s m) g
signed_rest s {m} g h e = at-common (s ∷ m ∷ g ∷ []) (λ d ((p, n, i), ((_, _, j), ((_, _, k), _))). go p n d _ _ _ _ i j k (dec_le n p))
  where
    go : (p n d u v p' n' : ℕ) → Is s p n d → Is m u v d → Is g p' n' d → Dec (n ≤ p) → (s -F signed_f s m) ≈F signed_f (signed_f s m) g
    go p n d u v p' n' i j k (yes l) =
        let b = (is_lt (is_whole (pos 0) i.some) j).0 h in
        let q = is_signed_up i l j in
        (is_eq (is_sub i q) (is_signed_up q (omega arith) k)).1 (omega (arith, (is_eq (is_abs i) (is_add j k)).0 e))
    go p n d u v p' n' i j k (no l) =
        let b = (is_lt (is_whole (pos 0) i.some) j).0 h in
        let q = is_signed_dn i (omega arith) j in
        (is_eq (is_sub i q) (is_signed_dn q (omega arith) k)).1 (omega (arith, (is_eq (is_abs i) (is_add j k)).0 e))

-- Nought has no sign.
pub nought_signed : (s x y : Frac) → (x -F x) ≈F signed_f s (y -F y)
nought_signed s x y = at-common (s ∷ x ∷ y ∷ []) (λ d ((p, n, i), ((_, _, j), ((_, _, k), _))). go p n d _ _ _ _ i j k (dec_le n p))
  where
    go : (p n d u v p' n' : ℕ) → Is s p n d → Is x u v d → Is y p' n' d → Dec (n ≤ p) → (x -F x) ≈F signed_f s (y -F y)
    go p n d u v p' n' i j k (yes l) = (is_eq (is_sub j j) (is_signed_up i l (is_sub k k))).1 (omega arith)
    go p n d u v p' n' i j k (no l) = (is_eq (is_sub j j) (is_signed_dn i (omega arith) (is_sub k k))).1 (omega arith)

-- A factor passes through a sign.
pub times_signed : (s : Frac) (x : Frac) (t e : ℕ) (h : 0 < e) → times_f (signed_f s x) t e h ≈F signed_f s (times_f x t e h)
times_signed s x t e h = at-common (s ∷ x ∷ []) (λ d ((p, n, i), ((_, _, j), _)). go p n d _ _ i j (dec_le n p))
  where
    go : (p n d u v : ℕ) → Is s p n d → Is x u v d → Dec (n ≤ p) → times_f (signed_f s x) t e h ≈F signed_f s (times_f x t e h)
    go p n d u v i j (yes l) = (is_eq (is_times t e h (is_signed_up i l j)) (is_signed_up i l (is_times t e h j))).1 refl
    go p n d u v i j (no l) = let m : p < n = omega arith in (is_eq (is_times t e h (is_signed_dn i m j)) (is_signed_dn i m (is_times t e h j))).1 refl

pub abs_not_negative : (x : Frac) → whole (pos 0) ≤F abs_f x
abs_not_negative x = at-common (x ∷ []) (λ d ((_, _, i), _). (is_le (is_whole (pos 0) i.some) (is_abs i)).1 (omega arith))

-- A magnitude lies above a number exactly where the number itself or its negation does.
pub abs_above : (y x : Frac) → (y <F abs_f x) ↔ ((y <F x) ⊎ (y <F neg_f x))
abs_above y x = at-common (y ∷ x ∷ []) (λ d ((_, _, i), ((p, n, j), _)). go p n d _ _ i j (dec_le n p))
  where
    go : (p n d u v : ℕ) → Is y u v d → Is x p n d → Dec (n ≤ p) → (y <F abs_f x) ↔ ((y <F x) ⊎ (y <F neg_f x))
    go p n d u v i j (yes h) = (
      λ l. inl ((is_lt i j).1 (omega (arith, (is_lt i (is_abs j)).0 l))),
      ⊎_elim (λ l. (is_lt i (is_abs j)).1 (omega (arith, (is_lt i j).0 l))) (λ l. (is_lt i (is_abs j)).1 (omega (arith, (is_lt i (is_negated j)).0 l))),
    )
    go p n d u v i j (no h) = (
      λ l. inr ((is_lt i (is_negated j)).1 (omega (arith, (is_lt i (is_abs j)).0 l))),
      ⊎_elim (λ l. (is_lt i (is_abs j)).1 (omega (arith, (is_lt i j).0 l))) (λ l. (is_lt i (is_abs j)).1 (omega (arith, (is_lt i (is_negated j)).0 l))),
    )

-- A sign put before a number above nought is the sign of what comes out.
pub signed_signed : (s : Frac) {m : Frac} (x : Frac) → whole (pos 0) <F m → signed_f (signed_f s m) x ≈F signed_f s x
signed_signed s {m} x h = at-common (s ∷ m ∷ x ∷ []) (λ d ((p, n, i), ((_, _, j), ((_, _, k), _))). go p n d _ _ _ _ i j k (dec_le n p))
  where
    go : (p n d u v p' n' : ℕ) → Is s p n d → Is m u v d → Is x p' n' d → Dec (n ≤ p) → signed_f (signed_f s m) x ≈F signed_f s x
    go p n d u v p' n' i j k (yes l) =
        (is_eq (is_signed_up (is_signed_up i l j) (omega (arith, (is_lt (is_whole (pos 0) i.some) j).0 h)) k) (is_signed_up i l k)).1 refl
    go p n d u v p' n' i j k (no l) =
        let b : p < n = omega arith in
        (is_eq (is_signed_dn (is_signed_dn i b j) (omega (arith, (is_lt (is_whole (pos 0) i.some) j).0 h)) k) (is_signed_dn i b k)).1 refl

-- A number is not negative, and its sign changes nothing, or it is negative, and its sign negates.
pub sign_cases : (s : Frac)
    → ((whole (pos 0) ≤F s) × ((x : Frac) → signed_f s x ≈F x)) ⊎ ((s <F whole (pos 0)) × ((x : Frac) → signed_f s x ≈F neg_f x))
sign_cases s = at-common (s ∷ []) (λ d ((p, n, i), _). go p n d i (dec_le n p))
  where
    go : (p n d : ℕ) → Is s p n d → Dec (n ≤ p)
        → ((whole (pos 0) ≤F s) × ((x : Frac) → signed_f s x ≈F x)) ⊎ ((s <F whole (pos 0)) × ((x : Frac) → signed_f s x ≈F neg_f x))
    go p n d i (yes h) = inl ((is_le (is_whole (pos 0) i.some) i).1 (omega arith), λ x. (is_eq (is_signed_up i h (is_own x)) (is_own x)).1 refl)
    go p n d i (no h) =
        inr ((is_lt i (is_whole (pos 0) i.some)).1 (omega arith), λ x. (is_eq (is_signed_dn i (omega arith) (is_own x)) (is_negated (is_own x))).1 refl)
