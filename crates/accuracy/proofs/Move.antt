-- One side of a curve under one pair, on magnitudes, rounded or not (SPEC 6.9, 7.2): it rests or flows. `g` is what rounding may add: 1 for
-- the stored rod, 0 for the bar. What both have in common carries the bound.
use mathlib.Core.List.{[], ◌∷◌}
use mathlib.Core.Logic.{◌⊎◌}
use Prim.Native.Nat.{ℕ}
use native.Mathlib.Omega.{arith}
use lib.IntN.{pos}
use Rattle.fractions.specs.Fraction.{Frac, ◌≤F◌, ◌<F◌, ◌≈F◌, whole, ◌+F◌}
use Rattle.fractions.proofs.Common.{is_whole, is_add, is_sub, is_le, is_lt, at-common}
use Rattle.fractions.proofs.Comparison.{≤F-of-<F}
use Rattle.flow.specs.Side.{Side, Hardens}
use Rattle.flow.proofs.OneSide.{accumulated_mono}

-- From the trial magnitude x and the abscissa a to the magnitude y and the abscissa b.
pub record Rests (side : Side) (x a y b : Frac) : Type 0 where
  pub within : x ≤F side.limit a
  pub magnitude : y ≈F x
  pub abscissa : b ≈F a

pub record Flows (side : Side) (g : ℕ) (x a y b : Frac) : Type 0 where
  pub passes : side.limit a <F x
  -- the magnitude is the limit at the new abscissa, rounded down by no more than g, and no more than the trial
  pub inside : y ≤F side.limit b
  pub rounded : side.limit b ≤F (y +F whole (pos g))
  pub lower : y ≤F x
  -- the abscissa grew by the excess, rounded up by no more than g
  pub least : (a +F x) ≤F (b +F side.limit a)
  pub most : (b +F side.limit a) ≤F (a +F x +F whole (pos g))

abbrev pub Move : Side → ℕ → (x a y b : Frac) → Type 0
Move side g x a y b = Rests side x a y b ⊎ Flows side g x a y b

module _ {side : Side} (curve : Hardens side) {g : ℕ} {x a y b : Frac} (p : side.yield ≤F a) (f : Flows side g x a y b) where
  pub has_grown : a <F b
  has_grown =
      at-common (x ∷ a ∷ b ∷ side.limit a ∷ [])
      (λ d ((_, _, i), ((_, _, j), ((_, _, k), ((_, _, r), _)))).
      (is_lt j k).1 (omega (arith, (is_lt r i).0 f.passes, (is_le (is_add j i) (is_add k r)).0 f.least)))

  pub limit_rises : side.limit a ≤F side.limit b
  limit_rises = curve.rises p (≤F-of-<F has_grown)

  -- The limit goes no further than the trial, but for the rounding.
  pub limit_at_most : side.limit b ≤F (x +F whole (pos g))
  limit_at_most =
      at-common (x ∷ a ∷ b ∷ side.limit a ∷ side.limit b ∷ [])
      (λ d ((_, _, i), ((_, _, j), ((_, _, k), ((_, _, r), ((_, _, s), _))))).
      let w = is_whole (pos g) i.some in
      (is_le s (is_add i w)).1
      (omega (
        arith,
        (is_le (is_sub j r) (is_sub k s)).0 (accumulated_mono curve p (≤F-of-<F has_grown)),
        (is_le (is_add k r) (is_add (is_add j i) w)).0 f.most,
      )))
