-- Texts and decimal numbers in bytes (SPEC 12.5), and a text appended to a buffer (SPEC 12.10), cited by Lines and the contracts of this
-- crate; definitions only, nothing is assumed.
use Rattle.std.specs.Prelude.{ℕ, zero, suc, ◌+◌, ◌/◌, ◌%◌, ◌≡◌, Bool, true, false, List, [], ◌∷◌, ◌++◌, length, ℤ, pos, negsuc, ltb}
use Prim.Native.Char.{code}
use Prim.Native.String as string
use Prim.Native.String.{String}
use Rattle.bits.specs.Layout.{put}

-- SPEC 12.5: the bytes of a text in ASCII, one for each of its letters.
abbrev pub ascii : String → List ℕ
ascii string.[] = []
ascii (string.◌∷◌ c rest) = code c ∷ ascii rest

-- SPEC 12.5: the digits 0 to 9.
abbrev pub digit : ℕ → ℕ
digit d = 48 + d

-- SPEC 12.5: a number below ten is one digit; any other is the digits of its tenth part, and then its last one. So none leads with a zero.
abbrev pub digits_by : (short : Bool) → ℕ → (tenth : ℕ → List ℕ) → List ℕ
digits_by true n tenth = digit n ∷ []
digits_by false n tenth = tenth (n / 10) ++ (digit (n % 10) ∷ [])

-- SPEC 12.5: the digits of a number that has at most so many,
unfoldable pub digits_within : (most n : ℕ) → List ℕ
digits_within zero n = []
digits_within (suc most) n = digits_by (ltb n 10) n (digits_within most)

-- and of any number n: n + 1 digits are always enough.
unfoldable pub numeral : ℕ → List ℕ
numeral n = digits_within (suc n) n

-- SPEC 12.5: a whole number: a minus sign below zero, and its magnitude; `negsuc n` is -(n + 1).
unfoldable pub signed_numeral : ℤ → List ℕ
signed_numeral (pos n) = numeral n
signed_numeral (negsuc n) = ascii "-" ++ numeral (suc n)

-- SPEC 12.10: what appending a text at a place of a buffer leaves: the text there, every other byte as it was, and the place behind it.
pub record Appended (text old : List ℕ) (at : ℕ) (new : List ℕ) (end : ℕ) : Type 0 where
  pub written : new ≡ put old at text
  pub ends : end ≡ at + length text
