-- The segments of a side from the i-th on: segment i before those from the next on, or the last one. Assumes nothing.
use Prim.Native.Nat.{ℕ, suc, ◌+◌, ◌≤◌, ◌<◌}
use mathlib.Core.Path.{◌≡◌}
use mathlib.Core.List.{◌∷◌}
use native.Mathlib.Numerals.{add-one}
use native.Mathlib.Omega.{arith}
use lib.ListN.{length, take, drop, get_or, drop_of_length-le}
use lib.Seq.{drop-cons, get_or-take, length-take-le}
use Rattle.curve.specs.declared.Side.{Side}
use Rattle.curve.specs.Curve.{Segments, last, segment}
use Rattle.curve.specs.Sides.{segments_of, flat, length_at, tangent_of}

unfoldable pub from : Side → ℕ → Segments
from side i = segments_of (drop i (take side.count side.segments))

module _ (side : Side) (fits : side.count ≤ length side.segments) where
  first_of : (i : ℕ) → i < side.count
      → drop i (take side.count side.segments) ≡ get_or side.segments i flat ∷ drop (suc i) (take side.count side.segments)
  first_of i h =
      let taken = length-take-le side.count side.segments fits in
      rw (drop-cons (take side.count side.segments) i flat (omega arith), get_or-take side.count side.segments i flat h)

  pub from_segment : (i : ℕ) → i + 1 < side.count → from side i ≡ segment (length_at side i) (tangent_of side i) (from side (i + 1))
  unfolding from segments_of
  from_segment i h = rw (add-one i, first_of i (omega arith), first_of (suc i) (omega (arith, h)))

  pub from_last : (i : ℕ) → i + 1 ≡ side.count → from side i ≡ last (tangent_of side i)
  unfolding from segments_of
  from_last i h =
      let taken = length-take-le side.count side.segments fits in
      rw (first_of i (omega arith), drop_of_length-le (take side.count side.segments) {i = suc i} (omega arith))
