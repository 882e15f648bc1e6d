-- Laws of whole numbers with a sign, as the machine holds them, and of tests between them.
use Prim.Native.Nat.{ℕ, zero, suc, ◌+◌, ◌-◌, ◌*◌, ◌/◌, ◌%◌, ◌^◌, ◌≤◌, ◌<◌}
use mathlib.Core.Path.{◌≡◌, refl, ap, ◌∙◌}
use mathlib.Core.Bool.{Bool, true, false, not, true≢false, cond}
use native.Mathlib.Nat.{one-mul, mod-eq_of_lt, add-mod_right}
use native.Mathlib.Omega.{arith}
use borrow.Author.Tests.{ltb-true, ltb-false, lt-leb, le-leb, lt-ltb, le-ltb}
use lib.IntN.{ℤ, pos, negsuc, ◌-ℤ◌}
use lib.Dec.{ltb, leb, eqb}
use lib.Pow.{pow_mono, pow_pos, ones_split, ones_lt, high, shl_exact}
use lib.Signed.{lt_z, le_z, mag}
use mir.Facts.{to_z-of_z}
use mir.Syntax.{w64}
use mir.Val.{to_z, of_z}
use Rattle.bits.specs.Field.{twos, bits_of, Held, flag}

pub minus_one_plus : (m : ℕ) → negsuc 0 -ℤ negsuc m ≡ pos m
minus_one_plus m = rw (le-ltb (suc m) 1 (omega arith)) (ap pos (omega arith))

-- A number below zero, and any other.
pub below_zero_is : (z : ℤ) → lt_z z (pos 0) ≡ true → z ≡ negsuc (mag z)
below_zero_is (pos n) h = absurd (omega (arith, ltb-true n 0 h))
below_zero_is (negsuc n) h = refl

pub from_zero_is : (z : ℤ) → lt_z z (pos 0) ≡ false → z ≡ pos (mag z)
from_zero_is (pos n) h = refl
from_zero_is (negsuc n) h = absurd (true≢false h)

-- A number is at most another exactly where the other isn't below it.
pub leb_is_not_ltb : (a b : ℕ) → leb b a ≡ not (ltb a b)
leb_is_not_ltb a b = by_test (ltb a b) refl
  where
    by_test : (t : Bool) → ltb a b ≡ t → leb b a ≡ not t
    by_test true e = lt-leb b a (ltb-true a b e)
    by_test false e = le-leb b a (ltb-false a b e)

pub le_z_is_not_lt_z : (a b : ℤ) → le_z b a ≡ not (lt_z a b)
le_z_is_not_lt_z (pos a) (pos b) = leb_is_not_ltb a b
le_z_is_not_lt_z (pos a) (negsuc b) = refl
le_z_is_not_lt_z (negsuc a) (pos b) = refl
le_z_is_not_lt_z (negsuc a) (negsuc b) = leb_is_not_ltb b a

-- A number that a word holds comes out as it went in.
pub held_as : {z y : ℤ} → mag z < 2 ^ 63 → z ≡ y → to_z w64 (of_z w64 z) ≡ y
held_as h e = to_z-of_z {w = w64} (record { sfits = h }) ∙ e

-- So does a number that some width holds, where it is passed on.
pub passed : (w : ℕ) (z : ℤ) → Held w z → w ≤ 64 → to_z w64 (of_z w64 z) ≡ z
passed w z h l = held_as (omega (arith, pow_mono {i = w - 1} {j = 63} (omega arith))) refl

-- The greatest number of some width is all ones of 64 bits, shifted down.
pub ones_shifted : (w : ℕ) → w ≤ 64 → 18446744073709551615 / 2 ^ (64 - w) ≡ 2 ^ w - 1
ones_shifted w h =
    let both : 64 ≡ w + (64 - w) = omega arith in
    let split : 18446744073709551615 ≡ (2 ^ w - 1) * 2 ^ (64 - w) + (2 ^ (64 - w) - 1) = ap (λ (k : ℕ). 2 ^ k - 1) both ∙ ones_split w (64 - w) in
    ap (λ (n : ℕ). n / 2 ^ (64 - w)) split ∙ high (2 ^ w - 1) (64 - w) (ones_lt (64 - w))

-- A power of two is a one of 64 bits, shifted up,
pub one_shifted : (w : ℕ) → w < 64 → 1 * 2 ^ w % 2 ^ 64 ≡ 2 ^ w
one_shifted w h = shl_exact {a = 1} 1 w 64 (omega arith) (omega arith) ∙ one-mul (2 ^ w)

-- and twice the one before it.
pub half : (w : ℕ) → 1 ≤ w → 2 ^ w ≡ 2 * 2 ^ (w - 1)
half zero h = elim h [ ]
half (suc n) h = rw (sub_one_suc n) (omega arith)
  where
    sub_one_suc : (n : ℕ) → suc n - 1 ≡ n
    sub_one_suc n = omega arith

-- All bits of a word stand for what the machine takes them for.
pub twos_of_word : (w x : ℕ) → w ≡ 64 → to_z w64 x ≡ twos w x
unfolding twos
twos_of_word w x e = rw e (ap (λ (k : ℕ). cond (ltb x (2 ^ 63)) (pos x) (negsuc k)) (omega arith))

-- Two numbers, the second not zero: their difference where the first is not below the second, and where it is.
difference_up : (a h : ℕ) → 0 < h → pos (a + h) -ℤ pos h ≡ pos a
difference_up a zero some = absurd (omega arith)
difference_up a (suc h) some = rw (le-ltb (a + suc h) (suc h) (omega arith)) (ap pos (omega arith))

difference_down : (a h : ℕ) → a < h → pos a -ℤ pos h ≡ negsuc (h - 1 - a)
difference_down a zero below = absurd (omega arith)
difference_down a (suc h) below = rw (lt-ltb a (suc h) below) (ap negsuc (omega arith))

-- Half of the width's numbers added to bits, the sum cut to the width, and that half taken off: what the bits stand for.
pub twos_raised : (w x : ℕ) → 1 ≤ w → x < 2 ^ w → pos ((x + 2 ^ (w - 1)) % (2 * 2 ^ (w - 1))) -ℤ pos (2 ^ (w - 1)) ≡ twos w x
unfolding twos
twos_raised w x h b = by_test (ltb x (2 ^ (w - 1))) refl
  where
    middle : ℕ
    middle = 2 ^ (w - 1)

    by_test : (t : Bool) → ltb x middle ≡ t → pos ((x + middle) % (2 * middle)) -ℤ pos middle ≡ cond t (pos x) (negsuc (2 ^ w - 1 - x))
    by_test true e =
        let whole : (x + middle) % (2 * middle) ≡ x + middle = mod-eq_of_lt (omega (arith, ltb-true x middle e)) in
        rw whole (difference_up x middle (pow_pos (w - 1)))
    by_test false e =
        let large = ltb-false x middle e in
        let over : x + middle ≡ x - middle + 2 * middle = omega arith in
        let cut : (x + middle) % (2 * middle) ≡ x - middle =
        ap (λ (n : ℕ). n % (2 * middle)) over ∙ add-mod_right (x - middle) (2 * middle) ∙ mod-eq_of_lt (omega (arith, half w h)) in
        rw cut (difference_down (x - middle) middle (omega (arith, half w h)) ∙ ap negsuc (omega (arith, half w h)))

-- The bits of a number that the width holds are below its power of two,
pub bits_below : (w : ℕ) (z : ℤ) → 1 ≤ w → Held w z → bits_of w z < 2 ^ w
unfolding bits_of
bits_below w (pos n) h l = omega (arith, half w h)
bits_below w (negsuc n) h l = omega (arith, half w h)

-- stand for that number,
pub twos_of_bits : (w : ℕ) (z : ℤ) → 1 ≤ w → Held w z → twos w (bits_of w z) ≡ z
unfolding bits_of twos
twos_of_bits w (pos n) h l = rw (lt-ltb n (2 ^ (w - 1)) l)
twos_of_bits w (negsuc n) h l =
    let large : 2 ^ (w - 1) ≤ 2 ^ w - 1 - n = omega (arith, half w h) in
    rw (le-ltb (2 ^ w - 1 - n) (2 ^ (w - 1)) large) (ap negsuc (omega (arith, half w h)))

-- and are the only ones that do. What bits of a width stand for, the width holds.
pub bits_of_twos : (w x : ℕ) → 1 ≤ w → x < 2 ^ w → (bits_of w (twos w x) ≡ x) × Held w (twos w x)
unfolding bits_of twos
bits_of_twos w x h l = by_test (ltb x (2 ^ (w - 1))) refl
  where
    stands : Bool → ℤ
    stands t = cond t (pos x) (negsuc (2 ^ w - 1 - x))

    by_test : (t : Bool) → ltb x (2 ^ (w - 1)) ≡ t → (bits_of w (stands t) ≡ x) × Held w (stands t)
    by_test true e = (refl, ltb-true x (2 ^ (w - 1)) e)
    by_test false e = (omega arith, omega (arith, half w h, ltb-false x (2 ^ (w - 1)) e))

-- The bits that a wider width has more, before those of a width that holds the number: zeros, or ones below zero.
abbrev pub signs : ℕ → ℤ → ℕ
signs more (pos n) = 0
signs more (negsuc n) = 2 ^ more - 1

pub bits_wider : (more w : ℕ) (z : ℤ) → 1 ≤ w → Held w z → bits_of (more + w) z ≡ signs more z * 2 ^ w + bits_of w z
unfolding bits_of
bits_wider more w (pos n) h l = omega arith
bits_wider more w (negsuc n) h l = omega (arith, ones_split more w, half w h)

-- A yes or no fits its bit, and is read back from it.
pub flag_below : (b : Bool) → flag b < 2
flag_below true = omega arith
flag_below false = omega arith

pub flag_back : (b : Bool) → eqb (flag b) 1 ≡ b
flag_back true = refl
flag_back false = refl

pub flag_again : (x : ℕ) → x < 2 → flag (eqb x 1) ≡ x
flag_again zero h = refl
flag_again (suc zero) h = refl
flag_again (suc (suc x)) h = absurd (omega arith)
