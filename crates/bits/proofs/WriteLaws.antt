-- Numbers of whole bytes written one behind another into a buffer: the bytes are those of the numbers packed side by side.
use Prim.Native.Nat.{ℕ, zero, suc, ◌+◌, ◌*◌, ◌/◌, ◌%◌, ◌^◌, ◌≤◌, ◌<◌}
use mathlib.Core.Path.{◌≡◌, sym, ap, ap₂, subst, ◌∙◌}
use mathlib.Core.List.{List, [], ◌∷◌, ◌++◌, append_assoc, append-nil}
use native.Mathlib.Nat.{add-zero, add-suc, add_assoc}
use native.Mathlib.Omega.{arith}
use lib.ListN.{length}
use lib.Pow.{pow-add}
use lib.IntN.{ℤ}
use Rattle.bits.specs.Field.{bits_of, Held}
use Rattle.bits.specs.Layout.{Part, widths, packed, bytes_of, put}
use Rattle.bits.proofs.SignLaws.{bits_below, signs, bits_wider}
use Rattle.bits.proofs.PutLaws.{length_bytes_of, put_behind}
use Rattle.bits.proofs.LayoutLaws.{Fit, packed_below}

-- The last m + n bytes of a number are those of its front and then the last n.
bytes_split : (m n front back : ℕ) → back < 2 ^ (8 * n) → bytes_of (m + n) (front * 2 ^ (8 * n) + back) ≡ bytes_of m front ++ bytes_of n back
unfolding bytes_of
bytes_split m zero front back h =
    let none : front * 1 + back ≡ front = omega arith in
    rw (add-zero m, none) (sym (append-nil (bytes_of m front)))
bytes_split m (suc n) front back h =
    let power : 2 ^ (8 * suc n) ≡ 2 ^ (8 * n) * 256 = pow_more in
    let x = front * 2 ^ (8 * suc n) + back in
    let over : x / 256 ≡ front * 2 ^ (8 * n) + back / 256 = rw power (omega arith) in
    let rest : x % 256 ≡ back % 256 = rw power (omega arith) in
    let less : back / 256 < 2 ^ (8 * n) = omega arith in
    rw (add-suc m n, over, rest, bytes_split m n front (back / 256) less) (append_assoc (bytes_of m front) (bytes_of n (back / 256)) (back % 256 ∷ []))
  where
    pow_more : 2 ^ (8 * suc n) ≡ 2 ^ (8 * n) * 256
    pow_more = let more : 8 * suc n ≡ 8 * n + 8 = omega arith in rw (more, pow-add 2 (8 * n) 8)

-- A whole number that fewer bytes hold, written in more: its bytes in those, behind its sign.
pub bytes_wider : (m n : ℕ) (z : ℤ) → 1 ≤ n → Held (8 * n) z
    → bytes_of (m + n) (bits_of (8 * (m + n)) z) ≡ bytes_of m (signs (8 * m) z) ++ bytes_of n (bits_of (8 * n) z)
bytes_wider m n z h l =
    let wide : 8 * (m + n) ≡ 8 * m + 8 * n = omega arith in
    rw (wide, bits_wider (8 * m) (8 * n) z (omega arith) l) (bytes_split m n (signs (8 * m) z) (bits_of (8 * n) z) (bits_below (8 * n) z (omega arith) l))

pub packed_alone : (p : Part) → packed (p ∷ []) ≡ p.value
unfolding widths packed
packed_alone p = omega arith

widths_append : (fs ps : List Part) → widths (fs ++ ps) ≡ widths fs + widths ps
unfolding widths
widths_append [] ps = omega arith
widths_append (f ∷ fs) ps = rw (widths_append fs ps) (omega arith)

packed_append : (fs ps : List Part) → packed (fs ++ ps) ≡ packed fs * 2 ^ widths ps + packed ps
unfolding widths packed
packed_append [] ps = omega arith
packed_append (f ∷ fs) ps =
    rw (widths_append fs ps, pow-add 2 (widths fs) (widths ps), packed_append fs ps) (omega arith)

pub fit_behind : (fs ps : List Part) → Fit (fs ++ ps) → Fit ps
fit_behind [] ps f = f
fit_behind (p ∷ fs) ps (v, f) = fit_behind fs ps f

pub fit_front : (fs ps : List Part) → Fit (fs ++ ps) → Fit fs
fit_front [] ps f = tt
fit_front (p ∷ fs) ps (v, f) = (v, fit_front fs ps f)

-- The bytes of some fields, and then those of the others behind them.
pub bytes_append : (fs ps : List Part) (m n : ℕ) → widths ps ≡ 8 * n → Fit (fs ++ ps) → bytes_of m (packed fs) ++ bytes_of n (packed ps) ≡ bytes_of (m + n) (packed (fs ++ ps))
bytes_append fs ps m n e f =
    let below : packed ps < 2 ^ (8 * n) = rw e at (packed_below ps (fit_behind fs ps f)) in
    sym (bytes_split m n (packed fs) (packed ps) below) ∙ ap (bytes_of (m + n)) (ap (λ (k : ℕ). packed fs * 2 ^ k + packed ps) (sym e) ∙ sym (packed_append fs ps))

-- Some fields of a layout written, and then the others behind them, are the layout written.
pub put_halves : (buffer : List ℕ) (at : ℕ) (fs ps : List Part) (m n : ℕ) → widths ps ≡ 8 * n → Fit (fs ++ ps) → at + m ≤ length buffer
    → put (put buffer at (bytes_of m (packed fs))) (at + m) (bytes_of n (packed ps)) ≡ put buffer at (bytes_of (m + n) (packed (fs ++ ps)))
put_halves buffer at fs ps m n e f room =
    let long = length_bytes_of m (packed fs) in
    ap (λ (k : ℕ). put (put buffer at (bytes_of m (packed fs))) (at + k) (bytes_of n (packed ps))) (sym long)
    ∙ put_behind buffer at (bytes_of m (packed fs)) (bytes_of n (packed ps)) (rw long room) ∙ ap (put buffer at) (bytes_append fs ps m n e f)

-- A number that is written in some whole bytes.
pub record Chunk : Type 0 where
  pub count : ℕ
  pub number : ℕ

abbrev pub chunk : ℕ → ℕ → Chunk
chunk count number = record { count = count; number = number }

abbrev pub fields_of : List Chunk → List Part
fields_of [] = []
fields_of (c ∷ cs) = record { width = 8 * c.count; value = c.number } ∷ fields_of cs

-- How many bytes they take.
abbrev pub counted : List Chunk → ℕ
counted [] = 0
counted (c ∷ cs) = c.count + counted cs

-- What a buffer holds once they were written one behind another, the first of them `from` bytes behind the place.
abbrev pub put_from : List ℕ → ℕ → ℕ → List Chunk → List ℕ
put_from buffer at from [] = buffer
put_from buffer at from (c ∷ cs) = put_from (put buffer (at + from) (bytes_of c.count c.number)) at (from + c.count) cs

-- A layout written in whole bytes: some fields in front as one number of n bytes, and then the others.
pub put_layout : (buffer : List ℕ) (at : ℕ) (fs : List Part) (n : ℕ) (cs : List Chunk) → Fit (fs ++ fields_of cs) → at + (n + counted cs) ≤ length buffer
    → put_from (put buffer at (bytes_of n (packed fs))) at n cs ≡ put buffer at (bytes_of (n + counted cs) (packed (fs ++ fields_of cs)))
unfolding widths packed
put_layout buffer at fs n [] f room = rw (add-zero n, append-nil fs)
put_layout buffer at fs n (c ∷ cs) f room =
    let p : Part = record { width = 8 * c.count; value = c.number } in
    let more = fs ++ (p ∷ []) in
    let regrouped : more ++ fields_of cs ≡ fs ++ (p ∷ fields_of cs) = append_assoc fs (p ∷ []) (fields_of cs) in
    let g : Fit (more ++ fields_of cs) = subst Fit (sym regrouped) f in
    let next : put (put buffer at (bytes_of n (packed fs))) (at + n) (bytes_of c.count c.number) ≡ put buffer at (bytes_of (n + c.count) (packed more)) =
    ap (λ (x : ℕ). put (put buffer at (bytes_of n (packed fs))) (at + n) (bytes_of c.count x)) (sym (packed_alone p))
    ∙ put_halves buffer at fs (p ∷ []) n c.count (omega arith) (fit_front more (fields_of cs) g) (omega arith) in
    ap (λ (b : List ℕ). put_from b at (n + c.count) cs) next ∙ put_layout buffer at more (n + c.count) cs g (omega arith)
    ∙ ap₂ (λ (k : ℕ) (ps : List Part). put buffer at (bytes_of k (packed ps))) (add_assoc n c.count (counted cs)) regrouped
