-- Laws of a field of bits: how wide it is, where it can be cut in two, and that eight bits from a byte's start are that byte.
use Prim.Native.Nat.{ℕ, zero, suc, ◌+◌, ◌-◌, ◌*◌, ◌/◌, ◌%◌, ◌^◌, ◌≤◌, ◌<◌}
use mathlib.Core.Path.{◌≡◌, refl, sym, ap, ◌∙◌}
use mathlib.Core.List.{List}
use native.Mathlib.Nat.{add-suc, add-zero, add_assoc, pow-suc, div-one}
use native.Mathlib.Omega.{arith}
use lib.ListN.{get_or, take, drop}
use lib.Pow.{shr-shr, high, low}
use lib.Seq.{get_or-take, get_or-drop}
use Rattle.bits.specs.Field.{bit, field}
use Rattle.bits.specs.Layout.{width_at, offset, field_at}

pub bit_below_two : (s : List ℕ) (k : ℕ) → bit s k < 2
bit_below_two s k = omega arith

pub field_below : (s : List ℕ) (at w : ℕ) → field s at w < 2 ^ w
unfolding field
field_below s at zero = omega arith
field_below s at (suc w) = omega (arith, field_below s at w, bit_below_two s (at + w))

-- So wide is each field of a layout.
pub field_at_below : (layout s : List ℕ) (k : ℕ) → field_at layout s k < 2 ^ width_at layout k
field_at_below layout s k = field_below s (offset layout k) (width_at layout k)

-- A field of w + v bits is the first w bits, and then the other v.
pub field_split : (s : List ℕ) (at w v : ℕ) → field s at (w + v) ≡ field s at w * 2 ^ v + field s (at + w) v
unfolding field
field_split s at w zero = rw (add-zero w) (omega arith)
field_split s at w (suc v) =
    rw (add-suc w v, pow-suc 2 v) (omega (arith, field_split s at w v, ap (bit s) (add_assoc at w v)))

bit_of_byte : (s : List ℕ) (i j : ℕ) → j < 8 → bit s (8 * i + j) ≡ get_or s i 0 / 2 ^ (7 - j) % 2
bit_of_byte s i j h =
    let q : (8 * i + j) / 8 ≡ i = omega arith in
    let r : (8 * i + j) % 8 ≡ j = omega arith in
    rw (q, r)

-- The first w bits of a byte are the byte without its last 8 - w bits.
front_of_byte : (s : List ℕ) (i w : ℕ) → get_or s i 0 < 256 → w ≤ 8 → field s (8 * i) w ≡ get_or s i 0 / 2 ^ (8 - w)
unfolding field
front_of_byte s i zero b h = omega arith
front_of_byte s i (suc w) b h =
    let x = get_or s i 0 / 2 ^ (7 - w) in
    let n : 8 - w ≡ 7 - w + 1 = omega arith in
    let m : 8 - suc w ≡ 7 - w = omega arith in
    let before : field s (8 * i) w ≡ x / 2 = front_of_byte s i w b (omega arith) ∙ ap (λ (k : ℕ). get_or s i 0 / 2 ^ k) n ∙ sym (shr-shr (get_or s i 0) (7 - w) 1) in
    rw (before, bit_of_byte s i w (omega arith), m) (omega arith)

-- Eight bits from a byte's start are that byte.
pub field_byte : (s : List ℕ) (i : ℕ) → get_or s i 0 < 256 → field s (8 * i) 8 ≡ get_or s i 0
field_byte s i b = front_of_byte s i 8 b (omega arith) ∙ div-one (get_or s i 0)

-- Some bytes more: the number so far times 256, and the next byte.
pub field_next_byte : (s : List ℕ) (from i : ℕ) → from ≤ i → get_or s i 0 < 256
    → field s (8 * from) (8 * (i + 1 - from)) ≡ field s (8 * from) (8 * (i - from)) * 256 + get_or s i 0
field_next_byte s from i h b =
    let n : 8 * (i + 1 - from) ≡ 8 * (i - from) + 8 = omega arith in
    let p : 8 * from + 8 * (i - from) ≡ 8 * i = omega arith in
    rw (n, field_split s (8 * from) (8 * (i - from)) 8, p, field_byte s i b)

-- A field is what is left of a longer one that holds it, without the bits after it and without those before.
pub field_inside : (s : List ℕ) (at before w after : ℕ) → field s at (before + w + after) / 2 ^ after % 2 ^ w ≡ field s (at + before) w
field_inside s at before w after =
    rw (field_split s at (before + w) after, high (field s at (before + w)) after (field_below s (at + (before + w)) after), field_split s at before w, low (field s at before) w (field_below s (at + before) w))

-- A field of a piece of some bytes lies in them behind the bytes before the piece.
bit_in_piece : (s : List ℕ) (m n k : ℕ) → k < 8 * n → bit (take n (drop m s)) k ≡ bit s (8 * m + k)
bit_in_piece s m n k h =
    let q : (8 * m + k) / 8 ≡ m + k / 8 = omega arith in
    let r : (8 * m + k) % 8 ≡ k % 8 = omega arith in
    rw (q, r, get_or-take n (drop m s) (k / 8) 0 (omega arith), get_or-drop m s (k / 8) 0)

pub field_in_piece : (s : List ℕ) (m n at w : ℕ) → at + w ≤ 8 * n → field (take n (drop m s)) at w ≡ field s (8 * m + at) w
unfolding field
field_in_piece s m n at zero h = refl
field_in_piece s m n at (suc w) h =
    rw (field_in_piece s m n at w (omega arith), bit_in_piece s m n (at + w) (omega arith), add_assoc (8 * m) at w)
