-- The bar without rounding (SPEC 10.1 to 10.5), which demand 3 compares the stored rod with, cited by Only and Within; definitions
-- only, nothing is assumed. A sheet and pairs go in and nothing of the library; `sound` says that the sheet passes, so that E is above 0.
use Rattle.std.specs.Prelude.{List, [], ◌∷◌, ℤ, pos, ◌+ℤ◌, ◌-ℤ◌, ◌*ℤ◌}
use Rattle.fractions.specs.Fraction.{Frac, whole, ◌+F◌, ◌-F◌}
use Rattle.law.specs.declared.Law.{Law}
use Rattle.law.specs.declared.Law.TheVariants.{IsotropicLine, IsotropicCurve, Kinematic, Asymmetric}
use Rattle.sheet.specs.declared.Sheet.{Sheet}
use Rattle.sheet.specs.Sound.{SheetSound, tangent_of}
use Rattle.sheet.specs.Thermal.{thermal_of}
use Rattle.pair.specs.declared.Pair.{Pair}
use Rattle.flow.specs.Solution.{ExactNumbers, isotropic, kinematic, asymmetric}
use Rattle.response.specs.Candidates.{radius, tension_side, compression_side}
use Rattle.rod.specs.declared.Rod.{Rod}
use Rattle.rod.specs.Unused.{unused_of}
use Rattle.rod.specs.Steps.{mechanical_of}

-- SPEC 10.1: the bar without rounding, which is the papers' term. Strain and temperature are whole, as every pair's are; stress and
-- variables are fractions, each over its own denominator.
pub record Bar : Type 0 where
  pub strain : ℤ
  pub temperature : ℤ
  pub stress : Frac
  -- the abscissa A, under law 2 the centre X
  pub first : Frac
  -- under law 3 the abscissa B of compression, else 0
  pub second : Frac

-- SPEC 10.2: the numbers of a rod as they are,
abbrev pub as_bar : Rod → Bar
as_bar r =
    record {
      strain = r.strain.0;
      temperature = r.temperature.0;
      stress = whole r.stress.0;
      first = whole r.first.0;
      second = whole r.second.0;
    }

-- and the bar at its start, with those of the sheet's unused rod.
unfoldable pub unused_bar : Sheet → Bar
unused_bar h = as_bar (unused_of h)

-- SPEC 10.3: the trial stress of a pair, from the bar's stress and never from the rod's; what the pair adds is the same for both.
unfoldable pub exact_trial : Sheet → Bar → Pair → Frac
exact_trial h b p =
    b.stress +F whole (pos h.modulus.0 *ℤ (p.change.0 -ℤ (thermal_of h p.temperature.0 -ℤ thermal_of h b.temperature)))

-- SPEC 10.5: E times the bar's plastic strain, which is E times its mechanical strain less its stress.
unfoldable pub exact_plastic : Sheet → Bar → Frac
exact_plastic h b = whole (pos h.modulus.0 *ℤ mechanical_of h b.strain b.temperature) -F b.stress

-- SPEC 10.3: after a pair the strain is greater by the pair's change and the temperature is the pair's; the law gives stress and variables.
abbrev pub fed : Bar → Pair → (stress first second : Frac) → Bar
fed b p stress first second =
    record { strain = b.strain +ℤ p.change.0; temperature = p.temperature.0; stress = stress; first = first; second = second }

-- SPEC 10.4: a law without a second variable leaves it as it is.
abbrev pub fed_first : Bar → Pair → ExactNumbers → Bar
fed_first b p m = fed b p m.stress m.variable b.second

module _ (h : Sheet) (sound : SheetSound h) where
  -- SPEC 10.4: a pair under laws 0 and 1, under law 2 and under law 3, each by its closed form (flow/specs/Solution) from the bar's
  -- numbers, which also decide whether it flows.
  unfoldable pub isotropic_fed : Bar → Pair → Bar
  isotropic_fed b p = fed_first b p (isotropic (tension_side h sound) (exact_trial h b p) b.first)

  unfoldable pub kinematic_fed : Bar → Pair → Bar
  kinematic_fed b p =
      fed_first b p (kinematic h.modulus.0 (tangent_of h.tension 0) sound.modulus_least (radius h) (exact_trial h b p) b.first)

  unfoldable pub asymmetric_fed : Bar → Pair → Bar
  asymmetric_fed b p =
      let m = asymmetric (tension_side h sound) (compression_side h sound) (exact_trial h b p) b.first b.second in
      fed b p m.stress m.tension m.compression

  -- SPEC 10.4: one pair, under a law,
  abbrev pub fed_under : Law → Bar → Pair → Bar
  fed_under IsotropicLine b p = isotropic_fed b p
  fed_under IsotropicCurve b p = isotropic_fed b p
  fed_under Kinematic b p = kinematic_fed b p
  fed_under Asymmetric b p = asymmetric_fed b p

  -- and under the sheet's.
  abbrev pub bar_step : Bar → Pair → Bar
  bar_step b p = fed_under h.law b p

  -- SPEC 10.1: pairs fed to a bar one after another,
  unfoldable pub bar_from : Bar → List Pair → Bar
  bar_from b [] = b
  bar_from b (p ∷ pairs) = bar_from (bar_step b p) pairs

  -- and to the unused one: the bar of a history.
  abbrev pub bar_after : List Pair → Bar
  bar_after pairs = bar_from (unused_bar h) pairs
