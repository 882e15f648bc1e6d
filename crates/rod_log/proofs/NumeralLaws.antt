-- SPEC 12.5: the fewest digits that hold a number are its numeral, and a number of few digits has a short one.
use Prim.Native.Nat.{ℕ, zero, suc, ◌-◌, ◌*◌, ◌/◌, ◌%◌, ◌^◌, ◌≤◌, ◌<◌}
use mathlib.Core.Path.{◌≡◌, refl, sym}
use mathlib.Core.Bool.{true, false, false≢true}
use mathlib.Core.List.{List, ◌++◌}
use native.Mathlib.Omega.{arith}
use borrow.Author.Tests.{lt-ltb, le-ltb}
use lib.IntN.{ℤ, pos, negsuc, nat_abs}
use Rattle.units.specs.Signs.{is_neg}
use Rattle.io.specs.Digits.{hex_digit_ascii, last_digits, IsDigitCount}
use Rattle.rod_log.specs.Texts.{ascii, digit, digits_within, numeral, signed_numeral}

power_above : (k : ℕ) → k < 10 ^ k
power_above zero = omega arith
power_above (suc k) = omega (arith, power_above k)

digit_glyph : (d : ℕ) → d < 10 → hex_digit_ascii d ≡ digit d
digit_glyph d h = rw (lt-ltb d 10 h)

fewest_within : (most k n : ℕ) → suc k ≤ most → n < 10 ^ suc k → (1 < suc k → 10 ^ k ≤ n) → last_digits 10 (suc k) n ≡ digits_within most n
unfolding digits_within
fewest_within zero k n h below above = absurd (omega arith)
fewest_within (suc most) zero n h below above =
    let small : n < 10 = omega arith in
    let last : n % 10 ≡ n = omega arith in
    rw (last, lt-ltb n 10 small)
fewest_within (suc most) (suc k) n h below above =
    let power : 10 ^ suc (suc k) ≡ 10 * 10 ^ suc k = omega arith in
    let large : 10 ≤ n = omega (arith, above (omega arith)) in
    rw (le-ltb n 10 large, fewest_within most k (n / 10) (omega arith) (omega arith) (λ l. omega (arith, above (omega arith))), digit_glyph (n % 10) (omega arith))

few : (k n : ℕ) → (1 < suc k → 10 ^ k ≤ n) → k ≤ n
few zero n above = omega arith
few (suc k) n above = omega (arith, power_above (suc k), above (omega arith))

pub fewest_is : (k n : ℕ) → IsDigitCount 10 1 n k → last_digits 10 k n ≡ numeral n
unfolding numeral
fewest_is zero n f = absurd (omega (arith, f.0))
fewest_is (suc k) n f =
    let one : suc k - 1 ≡ k = omega arith in
    let above : 1 < suc k → 10 ^ k ≤ n = λ l. rw one at (f.2 l) in
    fewest_within (suc n) k n (omega (arith, few k n above)) f.1 above

-- A whole number by its sign and its magnitude.
pub whole_below : (z : ℤ) (after : List ℕ) → is_neg z ≡ true → signed_numeral z ++ after ≡ ascii "-" ++ (numeral (nat_abs z) ++ after)
unfolding signed_numeral
whole_below (pos n) after e = absurd (false≢true e)
whole_below (negsuc n) after e = refl

pub whole_not_below : (z : ℤ) (after : List ℕ) → is_neg z ≡ false → signed_numeral z ++ after ≡ numeral (nat_abs z) ++ after
unfolding signed_numeral
whole_not_below (pos n) after e = refl
whole_not_below (negsuc n) after e = absurd (false≢true (sym e))
