-- The rule for tangents of SPEC 3.8, from the segments of a side by their index to its curve. Assumes nothing.
use Prim.Native.Nat.{ℕ, zero, suc, ◌+◌, ◌-◌, ◌≤◌, ◌<◌}
use mathlib.Core.Path.{◌≡◌}
use native.Mathlib.Omega.{arith}
use lib.ListN.{length}
use Rattle.curve.specs.declared.Side.{Side}
use Rattle.curve.specs.Curve.{Below, Falling}
use Rattle.curve.specs.Sides.{curve_of, tangent_of}
use Rattle.curve.proofs.SegmentsFrom.{from, from_segment, from_last}

module _ (E : ℕ) (side : Side) (fits : side.count ≤ length side.segments) where
  -- k more segments after the i-th
  below_from : ((i : ℕ) → i < side.count → tangent_of side i < E) → (k i : ℕ) → i + k + 1 ≡ side.count → Below E (from side i)
  below_from rule zero i h = rw (from_last side fits i (omega arith)) (rule i (omega arith))
  below_from rule (suc k) i h =
      rw (from_segment side fits i (omega arith)) (rule i (omega arith), below_from rule k (i + 1) (omega arith))

  falling_from : ((i : ℕ) → i + 1 < side.count → tangent_of side (i + 1) ≤ tangent_of side i) → (k i most : ℕ) → i + k + 1 ≡ side.count → tangent_of side i ≤ most → Falling most (from side i)
  falling_from rule zero i most h first = rw (from_last side fits i (omega arith)) first
  falling_from rule (suc k) i most h first =
      rw (from_segment side fits i (omega arith)) (first, falling_from rule k (i + 1) (tangent_of side i) (omega arith) (rule i (omega arith)))

  module _ (some : 0 < side.count) where
    pub side_below : ((i : ℕ) → i < side.count → tangent_of side i < E) → Below E (curve_of side).segments
    unfolding curve_of from
    side_below rule = below_from rule (side.count - 1) 0 (omega arith)

    pub side_falling : tangent_of side 0 ≤ E → ((i : ℕ) → i + 1 < side.count → tangent_of side (i + 1) ≤ tangent_of side i) → Falling E (curve_of side).segments
    unfolding curve_of from
    side_falling first rule = falling_from rule (side.count - 1) 0 E (omega arith) first
