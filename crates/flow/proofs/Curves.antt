-- SPEC 4.9: the curve of a side that passes is one that the theorems speak of: it hardens and flattens, and its whole limit is T rounded
-- down (SPEC 4.4).
use Prim.Native.Nat.{ℕ, ◌<◌}
use native.Mathlib.Omega.{arith}
use lib.IntN.{pos}
use Rattle.fractions.specs.Fraction.{◌≤F◌, whole}
use Rattle.fractions.proofs.Common.{is_whole_one, is_le, is_lt}
use Rattle.fractions.proofs.Comparison.{≤F-trans}
use Rattle.curve.specs.Curve.{Curve, limit_at}
use Rattle.curve.proofs.Limit.{limit_same, limit_at_yield, limit_monotone, limit_floor, plastic_strictly_increasing}
use Rattle.curve.proofs.Secants.{limit_secants_fall}
use Rattle.flow.specs.Side.{Hardens, Flattens}
use Rattle.flow.specs.CurveSide.{side_of, CurvePasses}
use Rattle.flow.specs.Rounded.{LimitRounded}

module _ {E : ℕ} (E_pos : 0 < E) {curve : Curve} (passes : CurvePasses E curve) where
  pub curve_hardens : Hardens (side_of E E_pos curve)
  curve_hardens =
      record {
        respects = limit_same E E_pos curve;
        positive = (is_lt (is_whole_one (pos 0)) (is_whole_one (pos curve.yield))).1 (omega (arith, passes.yield_pos));
        starts = limit_at_yield E E_pos curve;
        rises = λ p l. limit_monotone E E_pos curve passes.falling l;
        gentle = plastic_strictly_increasing E E_pos curve passes.below;
      }

  pub curve_flattens : Flattens (side_of E E_pos curve)
  curve_flattens =
      record {
        falls = λ p. limit_secants_fall E E_pos curve passes.falling (≤F-trans not_negative p);
      }
    where
      not_negative : whole (pos 0) ≤F whole (pos curve.yield)
      not_negative = (is_le (is_whole_one (pos 0)) (is_whole_one (pos curve.yield))).1 (omega arith)

pub curve_rounded : {E : ℕ} (E_pos : 0 < E) (curve : Curve) (a : ℕ) → LimitRounded (side_of E E_pos curve) (pos a) (limit_at E curve a)
curve_rounded {E} E_pos curve a = record { floor = limit_floor E E_pos curve a }
