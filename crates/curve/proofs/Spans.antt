-- The spans of a side's segments, one by one: where each starts and ends, and its tangent. Assumes nothing.
use Prim.Native.Nat.{ℕ, zero, suc, ◌+◌, ◌*◌, ◌≤◌, ◌<◌}
use mathlib.Core.Path.{◌≡◌, refl, sym, ◌∙◌, ap}
use mathlib.Core.List.{List, [], ◌∷◌, Memᴰ}
use mathlib.Core.Logic.{⊎_elim}
use native.Mathlib.Nat.{eq-or-lt_of_le}
use native.Mathlib.Numerals.{add-one}
use native.Mathlib.Omega.{arith}
use lib.ListN.{length, drop, get_or}
use lib.Seq.{get_or-drop, drop-drop}
use Rattle.curve.specs.declared.Side.{Side}
use Rattle.curve.specs.Curve.{Segments, last, segment, Curve}
use Rattle.curve.specs.Tangent.{at, nowhere, Span, spans}
use Rattle.curve.specs.Sides.{curve_of, length_at, tangent_of}
use Rattle.curve.specs.Carried.{behind_last, span_at}
use Rattle.curve.proofs.SegmentsFrom.{from, from_segment, from_last}

member_at : (i : ℕ) (xs : List Span) (otherwise : Span) → 0 < length (drop i xs) → Memᴰ (get_or xs i otherwise) xs
member_at zero [] otherwise h = absurd (omega arith)
member_at zero (y ∷ ys) otherwise h = Memᴰ.head refl
member_at (suc i) [] otherwise h = absurd (omega arith)
member_at (suc i) (y ∷ ys) otherwise h = Memᴰ.tail (member_at i ys otherwise h)

spans_some : (E start : ℕ) (segments : Segments) → 0 < length (spans E start segments)
unfolding spans
spans_some E start (last t) = omega arith
spans_some E start (segment length t rest) = omega arith

-- Spans start where the first one does.
first_start : (E start : ℕ) (segments : Segments) (otherwise : Span) → (get_or (spans E start segments) 0 otherwise).start ≡ start
unfolding spans
first_start E start (last t) otherwise = refl
first_start E start (segment length t rest) otherwise = refl

pub span_first : (E : ℕ) (c : Curve) → (span_at E c 0).start ≡ c.yield
span_first E c = first_start E c.yield c.segments _

module _ (E : ℕ) (side : Side) (fits : side.count ≤ length side.segments) where
  abbrev all : List Span
  all = spans E (curve_of side).yield (curve_of side).segments

  abbrev start_at : ℕ → ℕ
  start_at i = (span_at E (curve_of side) i).start

  -- The segments from i on have the spans from i on, the first of which is at `start`.
  abbrev SpansFrom : (i start : ℕ) → Type 0
  SpansFrom i start = drop i all ≡ spans E start (from side i)

  abbrev none : Span
  none = behind_last (curve_of side)

  span_at_head : (i start : ℕ) → SpansFrom i start → span_at E (curve_of side) i ≡ get_or (spans E start (from side i)) 0 none
  span_at_head i start is =
      let same : i + 0 ≡ i = omega arith in
      ap (λ (n : ℕ). get_or all n none) (sym same) ∙ sym (get_or-drop i all 0 none) ∙ ap (λ (xs : List Span). get_or xs 0 none) is

  start_is : (i start : ℕ) → SpansFrom i start → start_at i ≡ start
  start_is i start is = ap (λ (p : Span). p.start) (span_at_head i start is) ∙ first_start E start (from side i) none

  spans_onward : (i start : ℕ) → i + 1 < side.count → SpansFrom i start → SpansFrom (i + 1) (start + E * length_at side i)
  unfolding spans
  spans_onward i start h is = rw (← drop-drop 1 i all, is, from_segment side fits i h)

  spans_from : (i : ℕ) → i < side.count → SpansFrom i (start_at i)
  unfolding curve_of from
  spans_from zero h = rw (span_first E (curve_of side))
  spans_from (suc i) h =
      let next = spans_onward i (start_at i) (omega arith) (spans_from i (omega arith)) in
      rw (← add-one i, start_is (i + 1) (start_at i + E * length_at side i) next) next

  module _ (i : ℕ) where
    span_between : i + 1 < side.count → span_at E (curve_of side) i ≡ record { start = start_at i; end = at (start_at i + E * length_at side i); tangent = tangent_of side i }
    unfolding spans
    span_between h = span_at_head i (start_at i) (spans_from i (omega arith)) ∙ rw (from_segment side fits i h)

    span_last : i + 1 ≡ side.count → span_at E (curve_of side) i ≡ record { start = start_at i; end = nowhere; tangent = tangent_of side i }
    unfolding spans
    span_last h = span_at_head i (start_at i) (spans_from i (omega arith)) ∙ rw (from_last side fits i h)

    -- A segment that another one follows ends where that one starts,
    pub span_next : i + 1 < side.count → start_at (i + 1) ≡ start_at i + E * length_at side i
    span_next h = start_is (i + 1) (start_at i + E * length_at side i) (spans_onward i (start_at i) h (spans_from i (omega arith)))

    pub span_end : i + 1 < side.count → (span_at E (curve_of side) i).end ≡ at (start_at (i + 1))
    span_end h = ap (λ (p : Span). p.end) (span_between h) ∙ ap (λ (n : ℕ). at n) (sym (span_next h))

    -- and the last one has no end.
    pub span_endless : i + 1 ≡ side.count → (span_at E (curve_of side) i).end ≡ nowhere
    span_endless h = ap (λ (p : Span). p.end) (span_last h)

    module _ (h : i < side.count) where
      pub span_tangent : (span_at E (curve_of side) i).tangent ≡ tangent_of side i
      span_tangent =
          ⊎_elim (λ ends. ap (λ (p : Span). p.tangent) (span_last ends)) (λ goes_on. ap (λ (p : Span). p.tangent) (span_between goes_on)) (eq-or-lt_of_le {n = i + 1} {m = side.count} (omega arith))

      pub span_member : Memᴰ (span_at E (curve_of side) i) all
      span_member = member_at i all none (rw (spans_from i h) (spans_some E (start_at i) (from side i)))
