-- A field of bits in bytes (SPEC 3.1 to 3.3, 3.6), which every layout is read and written by, for any bytes of any length; definitions
-- only, nothing is assumed.
use Rattle.std.specs.Prelude.{ℕ, zero, suc, ◌+◌, ◌-◌, ◌*◌, ◌/◌, ◌%◌, ◌^◌, ◌<◌, Bool, true, false, ◌&&◌, cond, Option, Some, None, List, get_or, ℤ, pos, negsuc, ltb, leb}
use Rattle.std.specs.Int.Signed.{le_z, mag}

-- SPEC 3.1: bit k of the bytes. The first is the most significant one of the first byte; behind the last byte a bit is 0.
abbrev pub bit : List ℕ → ℕ → ℕ
bit s k = get_or s (k / 8) 0 / 2 ^ (7 - k % 8) % 2

-- SPEC 3.2: the number that a field of some width makes from bit `at` on, its first bit being the most significant.
unfoldable pub field : List ℕ → ℕ → ℕ → ℕ
field s at zero = 0
field s at (suc width) = field s at width * 2 + bit s (at + width)

-- SPEC 3.3: the whole number that the bits x of a signed field stand for: x below half of what the width can count, else x - 2 ^ width.
unfoldable pub twos : ℕ → ℕ → ℤ
twos width x = cond (ltb x (2 ^ (width - 1))) (pos x) (negsuc (2 ^ width - 1 - x))

-- SPEC 3.3: the bits that a whole number is written as in some width; `negsuc n` is -(n + 1).
unfoldable pub bits_of : ℕ → ℤ → ℕ
bits_of width (pos n) = n
bits_of width (negsuc n) = 2 ^ width - 1 - n

-- SPEC 3.3: a whole number that a signed field can hold, from -2 ^ (width - 1) to 2 ^ (width - 1) - 1: `mag` is n for n and for -(n + 1).
abbrev pub Held : ℕ → ℤ → Type 0
Held width z = mag z < 2 ^ (width - 1)

-- SPEC 3.3: a yes is the bit 1, a no the bit 0.
abbrev pub flag : Bool → ℕ
flag true = 1
flag false = 0

-- SPEC 3.6: a number within its bounds, both included,
abbrev pub within : ℕ → ℕ → ℕ → Bool
within least most x = leb least x && leb x most

-- and the same with a sign.
abbrev pub withinℤ : ℤ → ℤ → ℤ → Bool
withinℤ least most z = le_z least z && le_z z most

-- SPEC 3.6: what reading a field comes to: its number where it is right, and else none.
unfoldable pub some_if : {A : Type 0} → Bool → A → Option A
some_if right x = cond right (Some x) None
