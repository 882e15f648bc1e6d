-- What the answer of a field's reader says: the number lay outside its bounds, or within them and is the answer's.
use Prim.Native.Nat.{ℕ, ◌<◌}
use mathlib.Core.Path.{◌≡◌, refl}
use Rattle.std.specs.Prelude.{Some, None}
use mathlib.Core.Bool.{Bool, true, false, cond}
use native.Mathlib.Decide.{dec_lt}
use native.Mathlib.Omega.{arith}
use lib.Dec.{eqb}
use borrow.Author.Tests.{le-leb, lt-leb, eq-eqb, ne_eqb}
use Rattle.bits.specs.Field.{within, some_if}

-- Only a number itself lies within it and it.
pub within_itself : (n x : ℕ) → within n n x ≡ eqb x n
within_itself n x = by_order (dec_lt x n) (dec_lt n x)
  where
    by_order : Dec (x < n) → Dec (n < x) → within n n x ≡ eqb x n
    by_order (yes h) d = rw (lt-leb n x h, ne_eqb x n (λ e. omega arith))
    by_order (no h) (yes l) = rw (le-leb n x (omega arith), lt-leb x n l, ne_eqb x n (λ e. omega arith))
    by_order (no h) (no l) = rw (le-leb n x (omega arith), le-leb x n (omega arith), eq-eqb x n (omega arith))

module _ {A : Type 0} (right : Bool) (x : A) where
  pub some_if_none : some_if right x ≡ None → right ≡ false
  unfolding some_if
  some_if_none e = elim right as (λ t. cond t (Some x) None ≡ None → t ≡ false) [ true ↦ (λ e. cc) | false ↦ (λ e. refl) ] e

  pub some_if_some : {y : A} → some_if right x ≡ Some y → (right ≡ true) × (y ≡ x)
  unfolding some_if
  some_if_some {y} e = elim right as (λ t. cond t (Some x) None ≡ Some y → (t ≡ true) × (y ≡ x)) [ true ↦ (λ e. (refl, cc)) | false ↦ (λ e. cc) ] e
