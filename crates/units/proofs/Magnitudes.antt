-- The magnitude of a sum, a difference and a product, and of a number with its sign. Assumes nothing.
use Prim.Native.Nat.{ℕ, ◌+◌, ◌*◌, ◌≤◌}
use mathlib.Core.Path.{◌≡◌}
use mathlib.Core.Bool.{Bool, true}
use native.Mathlib.Omega.{arith}
use lib.IntN.{ℤ, pos, nat_abs, ◌+ℤ◌, ◌-ℤ◌, ◌*ℤ◌}
use lib.Signed.{le_z}
use Rattle.std.proofs.lemmas.Int.{ints}
use Rattle.units.specs.Signs.{with_sign}

pub magnitude_signed : (negative : Bool) (n : ℕ) → nat_abs (with_sign negative n) ≡ n
magnitude_signed negative n = grind (arith, ints)

pub magnitude_sum : (x y : ℤ) → nat_abs (x +ℤ y) ≤ nat_abs x + nat_abs y
magnitude_sum x y = omega (arith, ints)

pub magnitude_difference : (x y : ℤ) → nat_abs (x -ℤ y) ≤ nat_abs x + nat_abs y
magnitude_difference x y = omega (arith, ints)

pub magnitude_multiple : (n : ℕ) (z : ℤ) → nat_abs (pos n *ℤ z) ≡ n * nat_abs z
magnitude_multiple n z = grind (arith, ints)

pub magnitude_product : (x y : ℤ) → nat_abs (x *ℤ y) ≡ nat_abs x * nat_abs y
magnitude_product x y = grind (arith, ints)

pub difference_from : (x y : ℤ) → le_z y x ≡ true → pos (nat_abs (x -ℤ y)) ≡ x -ℤ y
difference_from x y from = grind (arith, ints)
