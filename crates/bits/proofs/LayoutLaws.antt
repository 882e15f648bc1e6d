-- Packing and unpacking, once for every layout: what is packed is read back field by field, and what was read packs to the same bytes.
use Prim.Native.Nat.{ℕ, zero, suc, ◌+◌, ◌-◌, ◌*◌, ◌/◌, ◌%◌, ◌^◌, ◌≤◌, ◌<◌}
use mathlib.Core.Path.{◌≡◌, refl, sym, ap, ◌∙◌}
use mathlib.Core.List.{List, [], ◌∷◌, ◌++◌}
use native.Mathlib.Nat.{add_assoc, add-zero, zero-add, mod-eq_of_lt}
use native.Mathlib.Omega.{arith}
use lib.Arith.{digits_lt, digits_div, digits_mod}
use lib.ListN.{length, get_or, take, get_or-append}
use lib.Pow.{pow-add, mod-pow-add, mod-mod-pow}
use lib.Pow as pow
use lib.Seq.{get_or_at, take-suc, take_all}
use lib.IntN.{ℤ}
use mir.Syntax.{w64}
use mir.Val.{to_z, of_z}
use Rattle.bits.specs.Field.{field, twos, bits_of, Held}
use Rattle.bits.specs.Layout.{Part, width_at, offset, field_at, whole_at, bits_at, filled, widths, packed, bytes_of}
use Rattle.bits.proofs.FieldLaws.{field_below, field_split, field_byte, field_inside}
use Rattle.bits.proofs.SignLaws.{twos_of_bits, bits_of_twos, passed}
use Rattle.bits.proofs.PutLaws.{length_bytes_of}

-- Bytes are numbers below 256.
abbrev pub Bytes : List ℕ → Type 0
Bytes s = (i : ℕ) → get_or s i 0 < 256

-- Each value fits the width of its field.
abbrev pub Fit : List Part → Type 0
Fit [] = Unit {0}
Fit (p ∷ ps) = (p.value < 2 ^ p.width) × Fit ps

pub packed_below : (ps : List Part) → Fit ps → packed ps < 2 ^ widths ps
unfolding widths packed
packed_below [] f = omega arith
packed_below (p ∷ ps) (v, f) = rw (pow-add 2 p.width (widths ps)) (digits_lt v (packed_below ps f))

-- Bits in front are read from the front.
field_front : (s t : List ℕ) (at w : ℕ) → at + w ≤ 8 * length s → field (s ++ t) at w ≡ field s at w
unfolding field
field_front s t at zero h = refl
field_front s t at (suc w) h =
    rw (field_front s t at w (omega arith), get_or-append s t 0 ((at + w) / 8) (omega arith))

-- The last n bytes of a number are that number without what doesn't fit them.
number_of_bytes : (n x : ℕ) → field (bytes_of n x) 0 (8 * n) ≡ x % 2 ^ (8 * n)
unfolding field bytes_of
number_of_bytes zero x = omega arith
number_of_bytes (suc n) x =
    let s = bytes_of n (x / 256) in
    let b = x % 256 in
    let long = length_bytes_of n (x / 256) in
    let front : field (s ++ (b ∷ [])) 0 (8 * n) ≡ x / 256 % 2 ^ (8 * n) = field_front s (b ∷ []) 0 (8 * n) (rw long (omega arith)) ∙ number_of_bytes n (x / 256) in
    let last : get_or (s ++ (b ∷ [])) n 0 ≡ b = get_or_at s b [] 0 n long in
    let more : 8 * suc n ≡ 8 * n + 8 = omega arith in
    rw (more, field_split (s ++ (b ∷ [])) 0 (8 * n) 8, front, zero-add (8 * n), field_byte (s ++ (b ∷ [])) n (rw last (omega arith)), last, mod-pow-add x (8 * n) 8)

-- A field of a number's bytes is cut out of that number.
pub field_of_bytes : (n x at w : ℕ) → at + w ≤ 8 * n → field (bytes_of n x) at w ≡ x / 2 ^ (8 * n - at - w) % 2 ^ w
field_of_bytes n x at w h =
    let after = 8 * n - at - w in
    let all : 8 * n ≡ at + w + after = omega arith in
    let start : 0 + at ≡ at = omega arith in
    let cut : field (bytes_of n x) 0 (at + w + after) / 2 ^ after % 2 ^ w ≡ field (bytes_of n x) at w = rw start at (field_inside (bytes_of n x) 0 at w after) in
    sym cut ∙ ap (λ (k : ℕ). field (bytes_of n x) 0 k / 2 ^ after % 2 ^ w) (sym all)
    ∙ ap (λ (y : ℕ). y / 2 ^ after % 2 ^ w) (number_of_bytes n x ∙ ap (λ (k : ℕ). x % 2 ^ k) all)
    ∙ ap (λ (y : ℕ). y % 2 ^ w) (pow.field x (at + w) after) ∙ mod-mod-pow (x / 2 ^ after) at w

-- The number of some bytes has those bytes.
pub bytes_back : (s : List ℕ) → Bytes s → (n : ℕ) → n ≤ length s → bytes_of n (field s 0 (8 * n)) ≡ take n s
unfolding bytes_of
bytes_back s b zero h = refl
bytes_back s b (suc n) h =
    let more : 8 * suc n ≡ 8 * n + 8 = omega arith in
    let number : field s 0 (8 * suc n) ≡ field s 0 (8 * n) * 256 + get_or s n 0 = rw (more, field_split s 0 (8 * n) 8, zero-add (8 * n), field_byte s n (b n)) in
    rw (number, digits_div (field s 0 (8 * n)) (b n), digits_mod (field s 0 (8 * n)) (b n), bytes_back s b n (omega arith), take-suc s n 0 h)

-- The values of a layout's fields, from a bit on.
abbrev pub fields_from : ℕ → List ℕ → List ℕ → List ℕ
fields_from at [] s = []
fields_from at (w ∷ ws) s = field s at w ∷ fields_from (at + w) ws s

-- What was read packs to the number that it was read from,
pub packed_fields : (s : List ℕ) (at : ℕ) (ws : List ℕ) → packed (filled ws (fields_from at ws s)) ≡ field s at (widths (filled ws (fields_from at ws s)))
unfolding field widths packed
packed_fields s at [] = refl
packed_fields s at (w ∷ ws) =
    rw (packed_fields s (at + w) ws) (sym (field_split s at w (widths (filled ws (fields_from (at + w) ws s)))))

-- so that writing it gives the bytes back.
pub written_back : (ws s : List ℕ) (n : ℕ) → Bytes s → length s ≡ n → widths (filled ws (fields_from 0 ws s)) ≡ 8 * n
    → bytes_of n (packed (filled ws (fields_from 0 ws s))) ≡ s
written_back ws s n b long all =
    rw (packed_fields s 0 ws, all, bytes_back s b n (omega arith)) (take_all n s (omega arith))

-- Two numbers below a power of two, each behind another: both are told by the whole.
halves : (w a b c d : ℕ) → b < 2 ^ w → d < 2 ^ w → a * 2 ^ w + b ≡ c * 2 ^ w + d → (a ≡ c) × (b ≡ d)
halves w a b c d hb hd e =
    (sym (digits_div a hb) ∙ ap (λ (n : ℕ). n / 2 ^ w) e ∙ digits_div c hd, sym (digits_mod a hb) ∙ ap (λ (n : ℕ). n % 2 ^ w) e ∙ digits_mod c hd)

-- The widths of fields.
abbrev pub widths_of : List Part → List ℕ
widths_of [] = []
widths_of (p ∷ ps) = p.width ∷ widths_of ps

abbrev pub nothing : Part
nothing = record { width = 0; value = 0 }

-- The first of some packed fields, and the others behind it.
packed_cut : (s : List ℕ) (at : ℕ) (p : Part) (ps : List Part) → Fit ps → field s at (widths (p ∷ ps)) ≡ packed (p ∷ ps)
    → (field s at p.width ≡ p.value) × (field s (at + p.width) (widths ps) ≡ packed ps)
unfolding widths packed
packed_cut s at p ps f e =
    halves (widths ps) _ _ _ _ (field_below s (at + p.width) (widths ps)) (packed_below ps f) (sym (field_split s at p.width (widths ps)) ∙ e)

-- What was packed is read back, field by field,
packed_read : (s : List ℕ) (at : ℕ) (ps : List Part) → Fit ps → field s at (widths ps) ≡ packed ps → (k : ℕ) → k < length ps
    → field s (at + offset (widths_of ps) k) (get_or (widths_of ps) k 0) ≡ (get_or ps k nothing).value
packed_read s at [] f e k h = absurd (omega arith)
packed_read s at (p ∷ ps) (v, f) e zero h = rw (add-zero at) (packed_cut s at p ps f e).0
packed_read s at (p ∷ ps) (v, f) e (suc k) h =
    rw (← add_assoc at p.width (offset (widths_of ps) k)) (packed_read s (at + p.width) ps f (packed_cut s at p ps f e).1 k (omega arith))

-- from the bytes that were written.
pub read_back : (n : ℕ) (ps : List Part) → Fit ps → widths ps ≡ 8 * n → (k : ℕ) → k < length ps
    → field_at (widths_of ps) (bytes_of n (packed ps)) k ≡ (get_or ps k nothing).value
read_back n ps f all k h =
    let whole : field (bytes_of n (packed ps)) 0 (widths ps) ≡ packed ps =
    ap (field (bytes_of n (packed ps)) 0) all ∙ number_of_bytes n (packed ps) ∙ ap (λ (m : ℕ). packed ps % 2 ^ m) (sym all) ∙ mod-eq_of_lt (packed_below ps f) in
    rw (zero-add (offset (widths_of ps) k)) at (packed_read (bytes_of n (packed ps)) 0 ps f whole k h)

-- A whole number whose bits were packed is read back too.
pub whole_back : (n : ℕ) (ps : List Part) → Fit ps → widths ps ≡ 8 * n → (k : ℕ) → k < length ps → (w : ℕ) (z : ℤ) → 1 ≤ w → Held w z
    → (get_or ps k nothing).value ≡ bits_of w z → twos w (field_at (widths_of ps) (bytes_of n (packed ps)) k) ≡ z
whole_back n ps f all k h w z one held e = ap (twos w) (read_back n ps f all k h ∙ e) ∙ twos_of_bits w z one held

-- The whole number of a field has the field's bits, and the width holds it.
pub whole_of_field : (s : List ℕ) (at w : ℕ) → 1 ≤ w → (bits_of w (twos w (field s at w)) ≡ field s at w) × Held w (twos w (field s at w))
whole_of_field s at w h = bits_of_twos w (field s at w) h (field_below s at w)

pub bits_of_whole : (layout s : List ℕ) (k : ℕ) → 1 ≤ width_at layout k → bits_at layout k (whole_at layout s k) ≡ field_at layout s k
bits_of_whole layout s k h = (whole_of_field s (offset layout k) (width_at layout k) h).0

-- A word of 64 bits holds that number.
pub word_of_field : {z : ℤ} (s : List ℕ) (at w : ℕ) → (1 ≤ w) × (w ≤ 64) → z ≡ twos w (field s at w) → to_z w64 (of_z w64 z) ≡ twos w (field s at w)
word_of_field {z} s at w (some, most) e = passed w z (rw e (whole_of_field s at w some).1) most ∙ e
