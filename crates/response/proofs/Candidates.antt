-- SPEC 6.6 to 6.8, over fractions: in a sheet that passes, from abscissas at or above their yields, the closed form meets the conditions of
-- the law, every candidate that does is the same, p grows exactly where the trial passes a limit, and no trial passes both. Used of the
-- stored rod and of the bar.
use mathlib.Core.Path.{◌≡◌}
use mathlib.Core.Logic.Iff
use mathlib.Core.Logic.{◌⊎◌, ⊎_map, ◌↔◌}
use native.Mathlib.Omega.{arith}
use lib.IntN.{pos}
use Rattle.fractions.specs.Fraction.{Frac, ◌≤F◌, ◌<F◌, ◌≈F◌, whole, ◌+F◌, ◌-F◌, abs_f}
use Rattle.fractions.proofs.Common.{is_whole_one, is_lt}
use Rattle.fractions.proofs.Comparison.{≈F-refl, ≈F-trans, ≈F-sym}
use Rattle.fractions.proofs.Arithmetic.{add_same, sub_same, difference_positive, sum_positive}
use Rattle.fractions.proofs.Signs.{abs_above}
use Rattle.law.specs.declared.Law.{Law}
use Rattle.law.specs.declared.Law.TheVariants.{IsotropicLine, IsotropicCurve, Kinematic, Asymmetric}
use Rattle.sheet.specs.declared.Sheet.{Sheet}
use Rattle.sheet.specs.Sound.{SheetSound, tangent_of}
use Rattle.flow.specs.Side.{Side, accumulated, Hardens}
use Rattle.flow.specs.Conditions as conditions
use Rattle.flow.specs.Solution.{isotropic, kinematic, asymmetric}
use Rattle.flow.proofs.Curves.{curve_hardens}
use Rattle.flow.proofs.OneSide.{accumulated_same, growth_not_negative, limit_positive}
use Rattle.flow.proofs.Isotropic.{isotropic_solves, isotropic_unique, isotropic_grows}
use Rattle.flow.proofs.Kinematic.{kinematic_solves, kinematic_unique, kinematic_grows}
use Rattle.flow.proofs.Asymmetric.{asymmetric_solves, asymmetric_unique, asymmetric_grows}
use Rattle.response.specs.Candidates.{Candidate, SameCandidate, Grows, growth_on, radius, tension_side, compression_side, IsotropicMeets, MeetsUnder, PassesTension, PassesCompression, Passes}
use Rattle.response.proofs.SoundSides.{sound_passes}
use Rattle.response.proofs.Passing.{passes_one_limit}

-- The growth on a side is one function of the number.
growth_same : {side : Side} → Hardens side → (A : Frac) {x y : Frac} → x ≈F y → growth_on side A x ≈F growth_on side A y
growth_same {side} curve A e = sub_same (accumulated_same curve e) (≈F-refl (accumulated side A))

either_same : {A B C D : Type 0} → A ↔ C → B ↔ D → (A ⊎ B) ↔ (C ⊎ D)
either_same e f = (⊎_map e.0 f.0, ⊎_map e.1 f.1)

-- Law 3: p grows exactly where one of the two sides flows.
pub sides_grow : {tension compression : Side} {trial A B stress A' B' growth : Frac}
    → conditions.Asymmetric tension compression trial A B stress A' B' → growth ≈F (growth_on tension A A' +F growth_on compression B B')
    → ((accumulated tension A <F accumulated tension A') ⊎ (accumulated compression B <F accumulated compression B')) ↔ (whole (pos 0) <F growth)
sides_grow s e =
    Iff.trans (either_same (difference_positive (≈F-refl _)) (difference_positive (≈F-refl _)))
    (sum_positive (growth_not_negative s.tension_holds) (growth_not_negative s.compression_holds) e)

module _ (h : Sheet) (sound : SheetSound h) where
  -- What is asked of the old variables: abscissas are at or above their yields.
  abbrev pub PastUnder : Law → (first second : Frac) → Type 0
  PastUnder IsotropicLine A second = (tension_side h sound).yield ≤F A
  PastUnder IsotropicCurve A second = (tension_side h sound).yield ≤F A
  PastUnder Kinematic X second = Unit {0}
  PastUnder Asymmetric A B = ((tension_side h sound).yield ≤F A) × ((compression_side h sound).yield ≤F B)

  pub tension_hardens : Hardens (tension_side h sound)
  tension_hardens = curve_hardens sound.modulus_least (sound_passes h.modulus.0 h.tension sound.tension)

  pub compression_hardens : h.law ≡ Asymmetric → Hardens (compression_side h sound)
  compression_hardens is = curve_hardens sound.modulus_least (sound_passes h.modulus.0 h.compression (sound.compression is))

  pub radius_positive : whole (pos 0) <F radius h
  radius_positive =
      (is_lt (is_whole_one (pos 0)) (is_whole_one (pos h.tension.yield_stress.0))).1 (omega (arith, sound.tension.yield_least))

  -- ---- The closed form

  abbrev isotropic_solution : (trial A second : Frac) → Candidate
  isotropic_solution trial A second =
      let m = isotropic (tension_side h sound) trial A in
      record { stress = m.stress; first = m.variable; second = second; growth = growth_on (tension_side h sound) A m.variable }

  abbrev pub solution_under : Law → (trial first second : Frac) → Candidate
  solution_under IsotropicLine trial A second = isotropic_solution trial A second
  solution_under IsotropicCurve trial A second = isotropic_solution trial A second
  solution_under Kinematic trial X second =
      let m = kinematic h.modulus.0 (tangent_of h.tension 0) sound.modulus_least (radius h) trial X in
      record { stress = m.stress; first = m.variable; second = second; growth = abs_f (trial -F m.stress) }
  solution_under Asymmetric trial A B =
      let m = asymmetric (tension_side h sound) (compression_side h sound) trial A B in
      record {
        stress = m.stress;
        first = m.tension;
        second = m.compression;
        growth = growth_on (tension_side h sound) A m.tension +F growth_on (compression_side h sound) B m.compression;
      }

  isotropic_meets : (trial A second : Frac) → (tension_side h sound).yield ≤F A
      → IsotropicMeets h sound trial A second (isotropic_solution trial A second)
  isotropic_meets trial A second past = (isotropic_solves tension_hardens trial A past, ≈F-refl _, ≈F-refl second)

  pub solution_meets : (law : Law) → h.law ≡ law → (trial first second : Frac) → PastUnder law first second
      → MeetsUnder h sound law trial first second (solution_under law trial first second)
  solution_meets IsotropicLine is trial A second past = isotropic_meets trial A second past
  solution_meets IsotropicCurve is trial A second past = isotropic_meets trial A second past
  solution_meets Kinematic is trial X second past = (kinematic_solves radius_positive sound.modulus_least trial X, ≈F-refl second)
  solution_meets Asymmetric is trial A B past =
      (asymmetric_solves tension_hardens (compression_hardens is) trial A B past.0 past.1, ≈F-refl _)

  -- ---- Every candidate that meets the conditions

  isotropic_same : (trial A second : Frac) (x y : Candidate) → IsotropicMeets h sound trial A second x → IsotropicMeets h sound trial A second y
      → SameCandidate x y
  isotropic_same trial A second x y (m, g, e) (m', g', e') =
      let (stress, first) = isotropic_unique tension_hardens m m' in
      record {
        stress = stress;
        first = first;
        second = ≈F-trans e (≈F-sym e');
        growth = ≈F-trans g (≈F-trans (growth_same tension_hardens A first) (≈F-sym g'));
      }

  -- Two of them are the same,
  pub meets_same : (law : Law) → h.law ≡ law → (trial first second : Frac) (x y : Candidate) → MeetsUnder h sound law trial first second x
      → MeetsUnder h sound law trial first second y → SameCandidate x y
  meets_same IsotropicLine is trial A second x y m m' = isotropic_same trial A second x y m m'
  meets_same IsotropicCurve is trial A second x y m m' = isotropic_same trial A second x y m m'
  meets_same Kinematic is trial X second x y (m, e) (m', e') =
      let (stress, first, growth) = kinematic_unique radius_positive m m' in
      record { stress = stress; first = first; second = ≈F-trans e (≈F-sym e'); growth = growth }
  meets_same Asymmetric is trial A B x y (m, g) (m', g') =
      let (stress, first, second) = asymmetric_unique tension_hardens (compression_hardens is) m m' in
      record {
        stress = stress;
        first = first;
        second = second;
        growth =
            ≈F-trans g
            (≈F-trans (add_same (growth_same tension_hardens A first) (growth_same (compression_hardens is) B second)) (≈F-sym g'));
      }

  -- their abscissas are past the yields again,
  pub meets_past : (law : Law) (trial first second : Frac) (x : Candidate) → MeetsUnder h sound law trial first second x
      → PastUnder law x.first x.second
  meets_past IsotropicLine trial A second x m = m.0.side_holds.past
  meets_past IsotropicCurve trial A second x m = m.0.side_holds.past
  meets_past Kinematic trial X second x m = tt
  meets_past Asymmetric trial A B x m = (m.0.tension_holds.past, m.0.compression_holds.past)

  isotropic_passes : (trial A second : Frac) (x : Candidate) → (tension_side h sound).yield ≤F A → IsotropicMeets h sound trial A second x
      → Grows x ↔ Passes h sound IsotropicLine trial A second
  isotropic_passes trial A second x past (m, g, e) =
      Iff.trans (Iff.symm (difference_positive g))
      (Iff.trans (isotropic_grows tension_hardens past m) (abs_above ((tension_side h sound).limit A) trial))

  -- and p grows in them exactly where the trial passes a limit.
  pub grows_passes : (law : Law) → h.law ≡ law → (trial first second : Frac) (x : Candidate) → PastUnder law first second
      → MeetsUnder h sound law trial first second x → Grows x ↔ Passes h sound law trial first second
  grows_passes IsotropicLine is trial A second x past m = isotropic_passes trial A second x past m
  grows_passes IsotropicCurve is trial A second x past m = isotropic_passes trial A second x past m
  grows_passes Kinematic is trial X second x past m = Iff.trans (kinematic_grows radius_positive m.0) (abs_above (radius h) (trial -F X))
  grows_passes Asymmetric is trial A B x (past, past') (m, g) =
      let grown = asymmetric_grows tension_hardens (compression_hardens is) past past' m in
      Iff.trans (Iff.symm (sides_grow m g)) (either_same grown.0 grown.1)

  -- Every limit lies above nought, so that no trial passes both of a law.
  pub one_limit : (law : Law) → h.law ≡ law → (trial first second : Frac) → PastUnder law first second
      → PassesTension h sound law trial first second → ¬ PassesCompression h sound law trial first second
  one_limit IsotropicLine is trial A second past = let high = limit_positive tension_hardens past in passes_one_limit high high
  one_limit IsotropicCurve is trial A second past = let high = limit_positive tension_hardens past in passes_one_limit high high
  one_limit Kinematic is trial X second past = passes_one_limit radius_positive radius_positive
  one_limit Asymmetric is trial A B (past, past') =
      passes_one_limit (limit_positive tension_hardens past) (limit_positive (compression_hardens is) past')
