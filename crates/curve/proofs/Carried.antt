-- What reading a curve carries from segment to segment (SPEC 4.11): T at the start of the segment reached, less the yield. Assumes nothing.
use Prim.Native.Nat.{ℕ, zero, suc, ◌+◌, ◌-◌, ◌*◌, ◌≤◌, ◌<◌}
use mathlib.Core.Path.{◌≡◌, sym, ◌∙◌}
use mathlib.Core.Logic.{◌↔◌}
use native.Mathlib.Nat.{eq_of_mul-eq-mul_left}
use native.Mathlib.Numerals.{add-one}
use native.Mathlib.Omega.{arith}
use lib.IntN.{pos}
use lib.ListN.{length}
use Rattle.fractions.proofs.Common.{is_whole, is_sub, is_eq}
use Rattle.curve.specs.declared.Side.{Side}
use Rattle.curve.specs.Curve.{Curve, height}
use Rattle.curve.specs.Sides.{curve_of, length_at, tangent_of}
use Rattle.curve.specs.Carried.{span_at, Carries}
use Rattle.curve.proofs.Height.{height_below_yield}
use Rattle.curve.proofs.Limit.{is_limit_whole}
use Rattle.curve.proofs.Spans.{span_first, span_next, span_end, span_tangent, span_member}
use Rattle.curve.proofs.Tangents.{UpTo, height_slope}

module _ (E : ℕ) (side : Side) (fits : side.count ≤ length side.segments) where
  -- From the start of a segment on, up to its end, E times T rises by the tangent.
  pub sum_over_segment : (i a : ℕ) → i < side.count → (span_at E (curve_of side) i).start ≤ a → UpTo (span_at E (curve_of side) i).end a
      → height E E (curve_of side).yield (curve_of side).segments a
      ≡ height E E (curve_of side).yield (curve_of side).segments (span_at E (curve_of side) i).start + tangent_of side i * (a - (span_at E (curve_of side) i).start)
  sum_over_segment i a h past to =
      rw (← span_tangent E side fits i h)
      (height_slope E (curve_of side).yield (curve_of side).segments (span_at E (curve_of side) i) (span_member E side fits i h) (span_at E (curve_of side) i).start a (omega arith) past to)

module _ (E : ℕ) (some : 0 < E) where
  -- Said with the sum of SPEC 4.4, which has no fractions.
  pub carries_sum : (c : Curve) (i rise : ℕ) → Carries E some c i rise ↔ (height E E c.yield c.segments (span_at E c i).start ≡ E * (c.yield + rise))
  carries_sum c i rise =
      let same = is_eq (is_sub (is_limit_whole E some c (span_at E c i).start) (is_whole (pos c.yield) some)) (is_whole (pos rise) some) in
      (λ h. omega (arith, same.0 h), λ h. same.1 (omega (arith, h)))

  -- No other number is T at that start less the yield.
  pub carried_only : (c : Curve) (i rise rise' : ℕ) → Carries E some c i rise → Carries E some c i rise' → rise ≡ rise'
  carried_only c i rise rise' h h' =
      let same = eq_of_mul-eq-mul_left E some (c.yield + rise) (c.yield + rise') (sym ((carries_sum c i rise).0 h) ∙ (carries_sum c i rise').0 h') in
      omega arith

  -- The first segment starts at the yield, where T has not risen yet,
  pub carried_first : (c : Curve) → Carries E some c 0 0
  carried_first c =
      (carries_sum c 0 0).1
      (rw (span_first E c) (height_below_yield E E c.yield c.segments c.yield (omega arith) ∙ omega arith))

  module _ (side : Side) (fits : side.count ≤ length side.segments) where
    -- and over a segment T rises by its tangent times its length.
    pub carried_next : (i rise : ℕ) → i + 1 < side.count → Carries E some (curve_of side) i rise → Carries E some (curve_of side) (i + 1) (rise + tangent_of side i * length_at side i)
    carried_next i rise h carried =
        let c = curve_of side in
        let start = (span_at E c i).start in
        let next = span_next E side fits i h in
        let over = sum_over_segment E side fits i (span_at E c (i + 1)).start (omega arith) (omega arith) (rw (span_end E side fits i h) (omega arith)) in
        let span : (span_at E c (i + 1)).start - start ≡ E * length_at side i = omega arith in
        (carries_sum c (i + 1) (rise + tangent_of side i * length_at side i)).1 (rw (over, (carries_sum c i rise).0 carried, span) (omega arith))

    -- So T at every start is the yield and one whole number.
    pub carried_exists : (i : ℕ) → i < side.count → (rise : ℕ) × Carries E some (curve_of side) i rise
    carried_exists zero h = (0, carried_first (curve_of side))
    carried_exists (suc i) h =
        let (rise, carried) = carried_exists i (omega arith) in
        (rise + tangent_of side i * length_at side i, rw (← add-one i) (carried_next i rise (omega arith) carried))
