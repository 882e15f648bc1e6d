-- Laws of bytes written into a buffer.
use Prim.Native.Nat.{ℕ, zero, suc, ◌+◌, ◌-◌, ◌/◌, ◌%◌, ◌≤◌, ◌<◌}
use mathlib.Core.Path.{◌≡◌, refl, sym, ap, ap₂, ◌∙◌}
use mathlib.Core.List.{List, [], ◌∷◌, ◌++◌, append_assoc, append-nil}
use native.Mathlib.Nat.{add-zero, add-suc}
use native.Mathlib.Omega.{arith}
use lib.ListN.{length, take, drop, set, length-append, length-drop, length-set, take-append-drop, drop_of_length-le}
use lib.Seq.{take-length, take-set-le, drop-cons, drop-set-lt, get_or-set_same, take_at, take-take, drop-drop, length-take-le, take-append-le, drop-append-add, drop-append_seam}
use borrow.Rule.Slice.PartMut.{put_mid, mid_of, mid_len, Post-is}
use Rattle.bits.specs.Layout.{bytes_of, put}

pub length_bytes_of : (n x : ℕ) → length (bytes_of n x) ≡ n
unfolding bytes_of
length_bytes_of zero x = refl
length_bytes_of (suc n) x = length-append (bytes_of n (x / 256)) (x % 256 ∷ []) ∙ rw (length_bytes_of n (x / 256)) (omega arith)

pub put_nothing : (buffer : List ℕ) (at : ℕ) → put buffer at [] ≡ buffer
unfolding put
put_nothing buffer at = rw (add-zero at) (take-append-drop at buffer)

-- Bytes as long as a buffer, written from its start, are all of it.
pub put_whole : (buffer bytes : List ℕ) → length buffer ≡ length bytes → put buffer 0 bytes ≡ bytes
unfolding put
put_whole buffer bytes e = ap (λ (l : List ℕ). bytes ++ l) (drop_of_length-le buffer {i = 0 + length bytes} (omega (arith, e))) ∙ append-nil bytes

-- Bytes that fill the part of a buffer that was cut out for them.
pub put_cut : (buffer bytes : List ℕ) (at to : ℕ) {part : List ℕ} → at ≤ to → length bytes ≡ to - at → part ≡ bytes
    → put_mid at (to - at) buffer part ≡ put buffer at bytes
unfolding put
put_cut buffer bytes at to order long is =
    let end : to ≡ at + length bytes = omega arith in
    ap₂ (λ (p q : List ℕ). take at buffer ++ (p ++ q)) is (Post-is at to buffer order ∙ ap (λ (k : ℕ). drop k buffer) end)

-- A number written into such a part.
pub put_number : (buffer : List ℕ) (at n : ℕ) (bits : ℕ → ℕ) {part : List ℕ} → at + n ≤ length buffer
    → part ≡ bytes_of (length (mid_of at (at + n - at) buffer)) (bits (length (mid_of at (at + n - at) buffer)))
    → put_mid at (at + n - at) buffer part ≡ put buffer at (bytes_of n (bits n))
put_number buffer at n bits room is =
    let long : length (mid_of at (at + n - at) buffer) ≡ n = mid_len at (at + n) buffer room ∙ omega arith in
    put_cut buffer (bytes_of n (bits n)) at (at + n) (omega arith) (length_bytes_of n (bits n) ∙ omega arith) (is ∙ ap (λ (k : ℕ). bytes_of k (bits k)) long)

-- Bytes copied into it.
pub put_part : (buffer bytes part : List ℕ) (at : ℕ) → at + length bytes ≤ length buffer
    → part ≡ take (length bytes) bytes ++ drop (length bytes) (mid_of at (at + length bytes - at) buffer)
    → put_mid at (at + length bytes - at) buffer part ≡ put buffer at bytes
put_part buffer bytes part at room h =
    let end = at + length bytes in
    let all : drop (length bytes) (mid_of at (end - at) buffer) ≡ [] =
    drop_of_length-le (mid_of at (end - at) buffer) {i = length bytes} (omega (arith, mid_len at end buffer room)) in
    put_cut buffer bytes at end (omega arith) (omega arith) (h ∙ ap₂ (λ (p q : List ℕ). p ++ q) (take-length bytes) all ∙ append-nil bytes)

pub length_put : (buffer : List ℕ) (at : ℕ) (bytes : List ℕ) → at + length bytes ≤ length buffer → length (put buffer at bytes) ≡ length buffer
unfolding put
length_put buffer at bytes h =
    simp (length-append, length-drop, length-take-le at buffer (omega arith)) (omega arith)

-- A byte stored just behind the place of some bytes, and then those: all of them written.
pub put_store : (buffer : List ℕ) (at : ℕ) (bytes : List ℕ) (b : ℕ) → at + length bytes < length buffer
    → put (set buffer (at + length bytes) b) at bytes ≡ put buffer at (bytes ++ (b ∷ []))
unfolding put
put_store buffer at bytes b h =
    let place = at + length bytes in
    let stored = set buffer place b in
    let n : length (bytes ++ (b ∷ [])) ≡ suc (length bytes) = length-append bytes (b ∷ []) ∙ omega arith in
    let rest : drop place stored ≡ b ∷ drop (suc place) buffer =
    drop-cons stored place 0 (rw (length-set buffer place b) h) ∙ ap₂ (λ (x : ℕ) (l : List ℕ). x ∷ l) (get_or-set_same buffer place b 0 h) (drop-set-lt (suc place) buffer place b (omega arith)) in
    rw (take-set-le at buffer place b (omega arith), rest, n, add-suc at (length bytes), append_assoc bytes (b ∷ []) (drop (suc place) buffer))

-- Bytes written behind others are all of them written.
pub put_behind : (buffer : List ℕ) (at : ℕ) (front back : List ℕ) → at + length front ≤ length buffer
    → put (put buffer at front) (at + length front) back ≡ put buffer at (front ++ back)
unfolding put
put_behind buffer at front back h =
    let place = at + length front in
    let head = take at buffer ++ front in
    let long : length head ≡ place = length-append (take at buffer) front ∙ rw (length-take-le at buffer (omega arith)) in
    let whole : take at buffer ++ (front ++ drop place buffer) ≡ head ++ drop place buffer = sym (append_assoc (take at buffer) front (drop place buffer)) in
    let back_at : place + length back ≡ at + length (front ++ back) = rw (length-append front back) (omega arith) in
    let rest : drop (place + length back) (head ++ drop place buffer) ≡ drop (at + length (front ++ back)) buffer =
    ap (λ (k : ℕ). drop (k + length back) (head ++ drop place buffer)) (sym long) ∙ drop-append-add head (drop place buffer) (length back) ∙ drop-drop (length back) place buffer ∙ ap (λ (k : ℕ). drop k buffer) back_at in
    rw (whole, take_at head (drop place buffer) place long, rest) (simp append_assoc)

-- Bytes written in front of others, and over the first of them: those that were covered are gone.
pub put_over : (buffer : List ℕ) (at k : ℕ) (front covered back : List ℕ) → length front ≡ k + length covered → at + k ≤ length buffer
    → put (put buffer (at + k) (covered ++ back)) at front ≡ put buffer at (front ++ back)
unfolding put
put_over buffer at k front covered back e h =
    let place = at + k in
    let head = take place buffer in
    let rest = drop (place + length (covered ++ back)) buffer in
    let long : length head ≡ place = length-take-le place buffer h in
    let kept : take at (head ++ ((covered ++ back) ++ rest)) ≡ take at buffer =
    take-append-le at head ((covered ++ back) ++ rest) (rw long (omega arith)) ∙ take-take at place buffer (omega arith) in
    let front-end : at + length front ≡ length head + length covered = rw (long, e) (omega arith) in
    let left : drop (at + length front) (head ++ ((covered ++ back) ++ rest)) ≡ back ++ rest =
    ap (λ (n : ℕ). drop n (head ++ ((covered ++ back) ++ rest))) front-end ∙ drop-append-add head ((covered ++ back) ++ rest) (length covered) ∙ ap (drop (length covered)) (append_assoc covered back rest) ∙ drop-append_seam covered (back ++ rest) in
    let back_end : place + length (covered ++ back) ≡ at + length (front ++ back) = rw (length-append covered back, length-append front back, e) (omega arith) in
    rw (kept, left, back_end) (sym (ap (λ (l : List ℕ). take at buffer ++ l) (append_assoc front back (drop (at + length (front ++ back)) buffer))))
