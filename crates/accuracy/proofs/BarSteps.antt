-- SPEC 10.6, 10.7: each step of the bar is the only solution of the law's conditions, from the bar's numbers, for every bar of a history.
use mathlib.Core.Path.{◌≡◌, refl}
use mathlib.Core.List.{List, [], ◌∷◌}
use lib.IntN.{pos, ◌+ℤ◌, ◌-ℤ◌, ◌*ℤ◌}
use Rattle.fractions.specs.Fraction.{Frac, ◌≈F◌, whole, ◌-F◌}
use Rattle.fractions.proofs.Comparison.{≤F-refl, ≈F-refl, ≈F-trans}
use Rattle.fractions.proofs.Arithmetic.{whole_sub, rest_of_sum}
use Rattle.law.specs.declared.Law.{Law}
use Rattle.law.specs.declared.Law.TheVariants.{IsotropicLine, IsotropicCurve, Kinematic, Asymmetric}
use Rattle.curve.specs.Sides.{curve_of}
use Rattle.sheet.specs.declared.Sheet.{Sheet}
use Rattle.sheet.specs.Sound.{SheetSound}
use Rattle.sheet.specs.Thermal.{thermal_of}
use Rattle.pair.specs.declared.Pair.{Pair}
use Rattle.response.specs.Candidates.{Candidate, radius, MeetsUnder}
use Rattle.response.proofs.Candidates.{PastUnder, solution_under, solution_meets, meets_same, meets_past}
use Rattle.rod.specs.Unused.{unused_of}
use Rattle.rod.specs.Steps.{mechanical_of}
use Rattle.rod.proofs.PlasticStrain.{mechanical_change, unused_plastic}
use Rattle.accuracy.specs.Bar.{Bar, unused_bar, exact_trial, exact_plastic, isotropic_fed, kinematic_fed, asymmetric_fed, fed_under, bar_step}
use Rattle.accuracy.specs.Only.{OnlySolution, EachStepOnly, BarSolves}

module _ (h : Sheet) (sound : SheetSound h) where
  abbrev as_candidate : Bar → (growth : Frac) → Candidate
  as_candidate c growth = record { stress = c.stress; first = c.first; second = c.second; growth = growth }

  -- The step meets the conditions, with the growth of the closed form.
  step_meets : (law : Law) → h.law ≡ law → (b : Bar) (p : Pair) → PastUnder h sound law b.first b.second
      → MeetsUnder h sound law (exact_trial h b p) b.first b.second
      (as_candidate (fed_under h sound law b p) (solution_under h sound law (exact_trial h b p) b.first b.second).growth)
  unfolding isotropic_fed kinematic_fed asymmetric_fed
  step_meets IsotropicLine is b p past = solution_meets h sound IsotropicLine is (exact_trial h b p) b.first b.second past
  step_meets IsotropicCurve is b p past = solution_meets h sound IsotropicCurve is (exact_trial h b p) b.first b.second past
  step_meets Kinematic is b p past = solution_meets h sound Kinematic is (exact_trial h b p) b.first b.second past
  step_meets Asymmetric is b p past = solution_meets h sound Asymmetric is (exact_trial h b p) b.first b.second past

  pub step_strain : (law : Law) (b : Bar) (p : Pair)
      → let c = fed_under h sound law b p in (c.strain ≡ b.strain +ℤ p.change.0) × (c.temperature ≡ p.temperature.0)
  unfolding isotropic_fed kinematic_fed asymmetric_fed
  step_strain IsotropicLine b p = (refl, refl)
  step_strain IsotropicCurve b p = (refl, refl)
  step_strain Kinematic b p = (refl, refl)
  step_strain Asymmetric b p = (refl, refl)

  -- E times plastic strain changes as the rod's does: E times the change of mechanical strain is one whole number.
  step_plastic : (b : Bar) (p : Pair) (c : Bar) → (c.strain ≡ b.strain +ℤ p.change.0) × (c.temperature ≡ p.temperature.0)
      → (exact_plastic h c -F exact_plastic h b) ≈F (exact_trial h b p -F c.stress)
  unfolding exact_plastic exact_trial
  step_plastic b p c (strain, temperature) =
      let E = h.modulus.0 in
      let before = thermal_of h b.temperature in
      let after = thermal_of h p.temperature.0 in
      let x = pos E *ℤ mechanical_of h b.strain b.temperature in
      let z = pos E *ℤ (p.change.0 -ℤ (after -ℤ before)) in
      let new : pos E *ℤ mechanical_of h c.strain c.temperature ≡ x +ℤ z =
      rw (strain, temperature) (mechanical_change E b.strain p.change.0 before after) in
      rw new (rest_of_sum x z b.stress c.stress)

  unused_bar_plastic : exact_plastic h (unused_bar h) ≈F whole (pos 0)
  unfolding exact_plastic unused_bar
  unused_bar_plastic =
      let u = unused_of h in
      ≈F-trans (whole_sub (pos h.modulus.0 *ℤ mechanical_of h u.strain.0 u.temperature.0) u.stress.0)
      (rw (unused_plastic h) (≈F-refl (whole (pos 0))))

  step_only_solution : (b : Bar) (p : Pair) → PastUnder h sound h.law b.first b.second → OnlySolution h sound b p (bar_step h sound b p)
  step_only_solution b p past =
      let meets = step_meets h.law refl b p past in
      let (strain, temperature) = step_strain h.law b p in
      record {
        solves = record { strain = strain; temperature = temperature; growth = _; law = meets };
        plastic = step_plastic b p (bar_step h sound b p) (strain, temperature);
        only = λ d s.
            let same = meets_same h sound h.law refl (exact_trial h b p) b.first b.second _ _ s.law meets in
            record {
              strain = rw strain s.strain;
              temperature = rw temperature s.temperature;
              stress = same.stress;
              first = same.first;
              second = same.second;
            };
      }

  step_past : (b : Bar) (p : Pair) → PastUnder h sound h.law b.first b.second
      → let c = bar_step h sound b p in PastUnder h sound h.law c.first c.second
  step_past b p past = meets_past h sound h.law (exact_trial h b p) b.first b.second _ (step_meets h.law refl b p past)

  unused_past : (law : Law) → h.law ≡ law → PastUnder h sound law (unused_bar h).first (unused_bar h).second
  unfolding unused_bar unused_of curve_of
  unused_past IsotropicLine is = rw is (≤F-refl (radius h))
  unused_past IsotropicCurve is = rw is (≤F-refl (radius h))
  unused_past Kinematic is = tt
  unused_past Asymmetric is = rw is (≤F-refl (radius h), ≤F-refl (whole (pos h.compression.yield_stress.0)))

  each_from : (b : Bar) (pairs : List Pair) → PastUnder h sound h.law b.first b.second → EachStepOnly h sound b pairs
  each_from b [] past = tt
  each_from b (p ∷ pairs) past = (step_only_solution b p past, each_from (bar_step h sound b p) pairs (step_past b p past))

  -- The bar of any history.
  pub bar_solves : (pairs : List Pair) → BarSolves h sound pairs
  bar_solves pairs = record { starts = unused_bar_plastic; steps = each_from (unused_bar h) pairs (unused_past h.law refl) }
