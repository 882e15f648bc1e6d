-- That every step of the bar is the only one that meets its law's conditions (SPEC 10.6, 10.7), cited by Within at each stop; the
-- conditions are those to which the stored rod is held (response/specs/Candidates). Definitions only; nothing is assumed.
use Rattle.std.specs.Prelude.{◌≡◌, List, [], ◌∷◌, pos, ◌+ℤ◌}
use Rattle.fractions.specs.Fraction.{Frac, ◌≈F◌, whole, ◌-F◌}
use Rattle.sheet.specs.declared.Sheet.{Sheet}
use Rattle.sheet.specs.Sound.{SheetSound}
use Rattle.pair.specs.declared.Pair.{Pair}
use Rattle.response.specs.Candidates.{MeetsUnder}
use Rattle.accuracy.specs.Bar.{Bar, unused_bar, exact_trial, exact_plastic, bar_step}

-- SPEC 10.6: two bars with the same numbers; fractions are the same by cross products, whatever their denominators.
pub record SameBar (b c : Bar) : Type 0 where
  pub strain : b.strain ≡ c.strain
  pub temperature : b.temperature ≡ c.temperature
  pub stress : b.stress ≈F c.stress
  pub first : b.first ≈F c.first
  pub second : b.second ≈F c.second

module _ (h : Sheet) (sound : SheetSound h) where
  -- SPEC 10.6: the bar c is a solution for the pair p from the bar b: its numbers, with some growth of p, meet the law's conditions.
  pub record Solves (b : Bar) (p : Pair) (c : Bar) : Type 0 where
    pub strain : c.strain ≡ b.strain +ℤ p.change.0
    pub temperature : c.temperature ≡ p.temperature.0
    pub growth : Frac
    pub law : MeetsUnder h sound h.law (exact_trial h b p) b.first b.second
        (record { stress = c.stress; first = c.first; second = c.second; growth = growth })

  -- SPEC 10.6, 10.7: it is the only one, and E times plastic strain changes by what the conditions took from the trial stress.
  pub record OnlySolution (b : Bar) (p : Pair) (c : Bar) : Type 0 where
    pub solves : Solves b p c
    pub only : (d : Bar) → Solves b p d → SameBar d c
    pub plastic : (exact_plastic h c -F exact_plastic h b) ≈F (exact_trial h b p -F c.stress)

  -- SPEC 10.6: each step of a bar that is fed these pairs is the only solution.
  abbrev pub EachStepOnly : Bar → List Pair → Type 0
  EachStepOnly b [] = Unit {0}
  EachStepOnly b (p ∷ pairs) = OnlySolution b p (bar_step h sound b p) × EachStepOnly (bar_step h sound b p) pairs

  -- SPEC 10.6, 10.7, the bar of a history: the unused one has no plastic strain, and each step from there on is the only solution.
  pub record BarSolves (pairs : List Pair) : Type 0 where
    pub starts : exact_plastic h (unused_bar h) ≈F whole (pos 0)
    pub steps : EachStepOnly (unused_bar h) pairs
