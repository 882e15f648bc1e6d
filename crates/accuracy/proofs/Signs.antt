-- Two numbers within k have the same sign, and their magnitudes are within k, or different signs, and their magnitudes come to at most k
-- together; and back. (From "within k" alone neither can be left out.)
use mathlib.Core.List.{[], ◌∷◌}
use mathlib.Core.Logic.{◌⊎◌, inl, inr}
use Prim.Native.Nat.{ℕ, ◌≤◌, ◌<◌}
use native.Mathlib.Decide.{dec_le}
use native.Mathlib.Omega.{arith}
use lib.IntN.{pos}
use Rattle.fractions.specs.Fraction.{Frac, ◌≤F◌, whole, ◌+F◌, abs_f, signed_f, Within}
use Rattle.fractions.proofs.Common.{Is, is_whole, is_add, is_abs_up, is_abs_dn, is_signed_up, is_signed_dn, is_le, at-common}
use Rattle.fractions.proofs.Arithmetic.{is_within}

pub record Alike (x y : Frac) : Type 0 where
  pub magnitudes : {k : ℕ} → Within k x y → Within k (abs_f x) (abs_f y)
  pub back : {k : ℕ} {u v : Frac} → Within k u v → Within k (signed_f x u) (signed_f y v)

pub record Unlike (x y : Frac) : Type 0 where
  pub magnitudes : {k : ℕ} → Within k x y → (abs_f x +F abs_f y) ≤F whole (pos k)
  pub back : {k : ℕ} {u v : Frac} → whole (pos 0) ≤F u → whole (pos 0) ≤F v → (u +F v) ≤F whole (pos k) → Within k (signed_f x u) (signed_f y v)

pub signs : (x y : Frac) → Alike x y ⊎ Unlike x y
signs x y = at-common (x ∷ y ∷ []) (λ d ((p, n, i), ((q, m, j), _)). go p n q m d i j (dec_le n p) (dec_le m q))
  where
    go : (p n q m d : ℕ) → Is x p n d → Is y q m d → Dec (n ≤ p) → Dec (m ≤ q) → Alike x y ⊎ Unlike x y
    go p n q m d i j (yes h) (yes l) =
        inl (record {
          magnitudes = λ {k} w. (is_within k (is_abs_up i h) (is_abs_up j l)).1 ((is_within k i j).0 w);
          back = λ {k} {u} {v} w. at-common (u ∷ v ∷ [])
              (λ e ((_, _, a), ((_, _, b), _)). (is_within k (is_signed_up i h a) (is_signed_up j l b)).1 ((is_within k a b).0 w));
        })
    go p n q m d i j (no h) (no l) =
        let below : p < n = omega arith in
        let below' : q < m = omega arith in
        inl (record {
          magnitudes = λ {k} w.
              let near = (is_within k i j).0 w in
              (is_within k (is_abs_dn i below) (is_abs_dn j below')).1 (record { above = omega arith; below = omega arith });
          back = λ {k} {u} {v} w.
              at-common (u ∷ v ∷ [])
              (λ e ((_, _, a), ((_, _, b), _)).
              let near = (is_within k a b).0 w in
              (is_within k (is_signed_dn i below a) (is_signed_dn j below' b)).1 (record { above = omega arith; below = omega arith }));
        })
    go p n q m d i j (yes h) (no l) =
        let below : q < m = omega arith in
        inr (record {
          magnitudes = λ {k} w. (is_le (is_add (is_abs_up i h) (is_abs_dn j below)) (is_whole (pos k) i.some)).1
              (omega (arith, (is_within k i j).0 w));
          back = λ {k} {u} {v} f g w.
              at-common (u ∷ v ∷ [])
              (λ e ((_, _, a), ((_, _, b), _)).
              let zero = is_whole (pos 0) a.some in
              let first = (is_le zero a).0 f in
              let second = (is_le zero b).0 g in
              let sum = (is_le (is_add a b) (is_whole (pos k) a.some)).0 w in
              (is_within k (is_signed_up i h a) (is_signed_dn j below b)).1 (record { above = omega arith; below = omega arith }));
        })
    go p n q m d i j (no h) (yes l) =
        let below : p < n = omega arith in
        inr (record {
          magnitudes = λ {k} w. (is_le (is_add (is_abs_dn i below) (is_abs_up j l)) (is_whole (pos k) i.some)).1
              (omega (arith, (is_within k i j).0 w));
          back = λ {k} {u} {v} f g w.
              at-common (u ∷ v ∷ [])
              (λ e ((_, _, a), ((_, _, b), _)).
              let zero = is_whole (pos 0) a.some in
              let first = (is_le zero a).0 f in
              let second = (is_le zero b).0 g in
              let sum = (is_le (is_add a b) (is_whole (pos k) a.some)).0 w in
              (is_within k (is_signed_dn i below a) (is_signed_up j l b)).1 (record { above = omega arith; below = omega arith }));
        })
