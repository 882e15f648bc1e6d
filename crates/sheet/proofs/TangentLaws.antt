-- The rule on tangents, of a side that was read.
use Prim.Native.Nat.{ℕ, zero, suc, ◌+◌, ◌-◌, ◌<◌}
use mathlib.Core.Path.{◌≡◌, refl, sym, ap, ap₂}
use mathlib.Core.Bool.{Bool, true, false, ◌&&◌, ◌||◌, cond}
use mathlib.Core.List.{List}
use native.Mathlib.Omega.{arith}
use native.Mathlib.Nat.{le_of_lt}
use borrow.Author.Tests.{ltb-true, le-leb}
use lib.Dec.{eqb, ltb, leb}
use Rattle.curve.specs.declared.Side.{Side}
use Rattle.curve.specs.Sides.{tangent_of}
use Rattle.sheet.specs.Sheets.{modulus_in, segment_tangent_in, tangent_right, tangents_right, all_below, side_in}
use Rattle.sheet.specs.ReaderAnswers.{tangent_falls, side_falls}
use Rattle.sheet.proofs.Passed.{tangent_is}

-- A tangent keeps its rule exactly where it is below Young's modulus and not above the one before, the modulus standing before the first.
pub tangent_rule : (side : Side) (modulus i : ℕ)
    → tangent_falls side modulus i ≡ ltb (tangent_of side i) modulus && leb (tangent_of side i) (cond (eqb i 0) modulus (tangent_of side (i - 1)))
tangent_rule side modulus i = by_place (eqb i 0) (ltb t modulus) refl
  where
    t : ℕ
    t = tangent_of side i

    by_place : (first below : Bool) → ltb t modulus ≡ below
        → below && (first || leb t (tangent_of side (i - 1))) ≡ below && leb t (cond first modulus (tangent_of side (i - 1)))
    by_place true true e = sym (le-leb t modulus (le_of_lt (ltb-true t modulus e)))
    by_place false true e = refl
    by_place first false e = refl

-- A test that says the same of each number below n.
all_below_same : (one other : ℕ → Bool) (n : ℕ) → ((i : ℕ) → i < n → one i ≡ other i) → all_below one n ≡ all_below other n
unfolding all_below
all_below_same one other zero same = refl
all_below_same one other (suc n) same = ap₂ ◌&&◌ (all_below_same one other n (λ i h. same i (omega arith))) (same n (omega arith))

-- A side that was read keeps the rule where the bytes do.
pub side_falls_as : (s : List ℕ) (yield first n : ℕ) → side_falls (side_in s yield first n) (modulus_in s) ≡ tangents_right s first n
unfolding tangents_right
side_falls_as s yield first n = all_below_same (tangent_falls side (modulus_in s)) (tangent_right s first) n same
  where
    side : Side
    side = side_in s yield first n

    by_place : (i : ℕ) → i < n → (b : Bool) → eqb i 0 ≡ b
        → b || leb (segment_tangent_in s (first + i)) (tangent_of side (i - 1)) ≡ b || leb (segment_tangent_in s (first + i)) (segment_tangent_in s (first + i - 1))
    by_place i h true e = refl
    by_place i h false e =
        let back : first + (i - 1) ≡ first + i - 1 = grind (arith, e) in
        rw (tangent_is s yield first n (i - 1) (omega arith), back)

    same : (i : ℕ) → i < n → tangent_falls side (modulus_in s) i ≡ tangent_right s first i
    same i h = rw (tangent_is s yield first n i h) (ap (λ (t : Bool). ltb (segment_tangent_in s (first + i)) (modulus_in s) && t) (by_place i h (eqb i 0) refl))
