-- Tests between two whole numbers as facts, and turned round. Assumes nothing.
use mathlib.Core.Path.{◌≡◌}
use mathlib.Core.Bool.{true, false}
use native.Mathlib.Omega.{arith}
use lib.IntN.{ℤ}
use lib.Signed.{le_z, lt_z, ◌≤ℤ◌}
use Rattle.std.proofs.lemmas.Int.{ints}

pub test_of_at_most : {x y : ℤ} → x ≤ℤ y → le_z x y ≡ true
test_of_at_most {x} {y} h = grind (arith, ints)

pub at_most_of_test : {x y : ℤ} → le_z x y ≡ true → x ≤ℤ y
at_most_of_test {x} {y} e = grind (arith, ints)

pub below_of_not_at_most : (x y : ℤ) → le_z y x ≡ false → lt_z x y ≡ true
below_of_not_at_most x y e = grind (arith, ints)

pub reached_of_not : (x y : ℤ) → le_z x y ≡ false → le_z y x ≡ true
reached_of_not x y e = grind (arith, ints)
