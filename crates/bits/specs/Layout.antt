-- A layout, which is a list of widths (SPEC 3.4, 3.5), cited wherever a pair, a row, a state or a sheet is read or written; definitions
-- only, nothing is assumed.
use Rattle.std.specs.Prelude.{ℕ, zero, suc, ◌+◌, ◌*◌, ◌/◌, ◌%◌, ◌^◌, List, [], ◌∷◌, ◌++◌, length, take, drop, get_or, ℤ}
use Rattle.bits.specs.Field.{field, twos, bits_of}

-- SPEC 3.4: the width of field k of a layout.
abbrev pub width_at : List ℕ → ℕ → ℕ
width_at layout k = get_or layout k 0

-- SPEC 3.4: where field k begins, which is where the one before it ends.
abbrev pub offset : List ℕ → ℕ → ℕ
offset [] k = 0
offset (w ∷ ws) zero = 0
offset (w ∷ ws) (suc k) = w + offset ws k

-- SPEC 3.4: the number in field k of a layout,
abbrev pub field_at : List ℕ → List ℕ → ℕ → ℕ
field_at layout s k = field s (offset layout k) (width_at layout k)

-- and the same where the layout begins at some bit.
abbrev pub field_from : (start : ℕ) → List ℕ → List ℕ → ℕ → ℕ
field_from start layout s k = field s (start + offset layout k) (width_at layout k)

-- SPEC 3.3: the whole number in a signed field k of a layout,
abbrev pub whole_at : List ℕ → List ℕ → ℕ → ℤ
whole_at layout s k = twos (width_at layout k) (field_at layout s k)

-- the same where the layout begins at some bit,
abbrev pub whole_from : (start : ℕ) → List ℕ → List ℕ → ℕ → ℤ
whole_from start layout s k = twos (width_at layout k) (field_from start layout s k)

-- and the bits that it is written as there.
abbrev pub bits_at : List ℕ → ℕ → ℤ → ℕ
bits_at layout k z = bits_of (width_at layout k) z

-- SPEC 3.4: a field's width and value.
pub record Part : Type 0 where
  pub width : ℕ
  pub value : ℕ

-- SPEC 3.4: a layout with a value for each of its fields.
abbrev pub filled : List ℕ → List ℕ → List Part
filled [] vs = []
filled (w ∷ ws) [] = []
filled (w ∷ ws) (v ∷ vs) = record { width = w; value = v } ∷ filled ws vs

-- SPEC 3.4: how many bits fields take.
unfoldable pub widths : List Part → ℕ
widths [] = 0
widths (p ∷ ps) = p.width + widths ps

-- SPEC 3.4: the number that all fields make together, side by side.
unfoldable pub packed : List Part → ℕ
unfolding widths
packed [] = 0
packed (p ∷ ps) = p.value * 2 ^ widths ps + packed ps

-- SPEC 3.4: a number in n bytes, most significant first; what is above them is left out.
unfoldable pub bytes_of : ℕ → ℕ → List ℕ
bytes_of zero x = []
bytes_of (suc n) x = bytes_of n (x / 256) ++ (x % 256 ∷ [])

-- SPEC 3.5: a buffer after a write at a place: the bytes there, and every other byte as it was.
unfoldable pub put : List ℕ → ℕ → List ℕ → List ℕ
put buffer at bytes = take at buffer ++ (bytes ++ drop (at + length bytes) buffer)
