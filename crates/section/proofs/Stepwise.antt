-- A list that is changed one element after another, over any elements: the first i are changed, and the others as they were.
use Prim.Native.Nat.{ℕ, zero, suc, ◌+◌, ◌≤◌, ◌<◌}
use native.Mathlib.Omega.{arith}
use mathlib.Core.Path.{◌≡◌, refl, ap, ◌∙◌}
use mathlib.Core.List.{List, [], ◌∷◌, map}
use lib.ListN.{length, get_or, set}

module _ {X : Type 0} (f : X → X) where
  unfoldable pub map_to : ℕ → List X → List X
  map_to zero xs = xs
  map_to (suc i) [] = []
  map_to (suc i) (x ∷ xs) = f x ∷ map_to i xs

  pub map_to_none : (xs : List X) → map_to 0 xs ≡ xs
  unfolding map_to
  map_to_none xs = refl

  pub map_to_length : (i : ℕ) (xs : List X) → length (map_to i xs) ≡ length xs
  unfolding map_to
  map_to_length zero xs = refl
  map_to_length (suc i) [] = refl
  map_to_length (suc i) (x ∷ xs) = ap suc (map_to_length i xs)

  -- Element i is changed next.
  map_to_next : (i : ℕ) (xs : List X) (d : X) → i < length xs → set (map_to i xs) i (f (get_or (map_to i xs) i d)) ≡ map_to (suc i) xs
  unfolding map_to
  map_to_next i [] d l = absurd (omega arith)
  map_to_next zero (x ∷ xs) d l = refl
  map_to_next (suc i) (x ∷ xs) d l = ap (λ (ys : List X). f x ∷ ys) (map_to_next i xs d (omega arith))

  pub map_to_more : (i : ℕ) (xs : List X) (d : X) → i < length xs → set (map_to i xs) i (f (get_or (map_to i xs) i d)) ≡ map_to (i + 1) xs
  map_to_more i xs d l = map_to_next i xs d l ∙ ap (λ (k : ℕ). map_to k xs) (omega arith)

  pub map_to_all : (i : ℕ) (xs : List X) → length xs ≤ i → map_to i xs ≡ map f xs
  unfolding map_to
  map_to_all zero [] l = refl
  map_to_all (suc i) [] l = refl
  map_to_all zero (x ∷ xs) l = absurd (omega arith)
  map_to_all (suc i) (x ∷ xs) l = ap (λ (ys : List X). f x ∷ ys) (map_to_all i xs (omega arith))
