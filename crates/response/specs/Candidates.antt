-- Candidates, and the conditions of a sheet's law over fractions (SPEC 5.5, 6.1, 6.3 to 6.8, 7.7), cited by Solved for the stored rod,
-- which puts its whole numbers in, and by accuracy for the bar, which puts in its own fractions; definitions only, nothing is assumed. The
-- conditions are flow's, put to the sides of the sheet. `sound` says that the sheet passes, so that 0 < E and t < E.
use Rattle.std.specs.Prelude.{◌⊎◌, pos}
use Rattle.fractions.specs.Fraction.{Frac, ◌<F◌, ◌≈F◌, whole, ◌+F◌, neg_f, ◌-F◌}
use Rattle.branch.specs.declared.Branch.{Branch}
use Rattle.branch.specs.declared.Branch.TheVariants.{Elastic, Tension, Compression}
use Rattle.law.specs.declared.Law.{Law}
use Rattle.law.specs.declared.Law.TheVariants.{IsotropicLine, IsotropicCurve, Kinematic, Asymmetric}
use Rattle.curve.specs.Sides.{curve_of}
use Rattle.sheet.specs.declared.Sheet.{Sheet}
use Rattle.sheet.specs.Sound.{SheetSound, tangent_of}
use Rattle.flow.specs.Side.{Side, accumulated}
use Rattle.flow.specs.CurveSide.{side_of}
use Rattle.flow.specs.Conditions as conditions

-- SPEC 6.1: a candidate, the new numbers. `growth` is E times what accumulated plastic strain p grew by, under law 3 on both sides together.
pub record Candidate : Type 0 where
  pub stress : Frac
  pub first : Frac
  pub second : Frac
  pub growth : Frac

-- SPEC 6.7: two candidates are equal as fractions.
pub record SameCandidate (x y : Candidate) : Type 0 where
  pub stress : x.stress ≈F y.stress
  pub first : x.first ≈F y.first
  pub second : x.second ≈F y.second
  pub growth : x.growth ≈F y.growth

-- SPEC 6.8: p grows.
abbrev pub Grows : Candidate → Type 0
Grows x = whole (pos 0) <F x.growth

-- SPEC 5.5: E times what plastic strain changes by.
abbrev pub plastic_change : (trial : Frac) → Candidate → Frac
plastic_change trial x = trial -F x.stress

-- SPEC 7.7: the branch that a change of plastic strain goes by: it stays in the elastic one, grows in tension, falls in compression. Of a
-- distance from a centre it says the side.
abbrev pub Toward : Branch → (change : Frac) → Type 0
Toward Elastic change = change ≈F whole (pos 0)
Toward Tension change = whole (pos 0) <F change
Toward Compression change = change <F whole (pos 0)

-- SPEC 4.7: E times what p grows by on one side, from the abscissa A to A'.
abbrev pub growth_on : Side → (A A' : Frac) → Frac
growth_on side A A' = accumulated side A' -F accumulated side A

-- SPEC 6.4: the radius of law 2 is the tension yield.
abbrev pub radius : Sheet → Frac
radius h = whole (pos h.tension.yield_stress.0)

module _ (h : Sheet) (sound : SheetSound h) where
  -- SPEC 4.4: the sheet's two sides, T not rounded.
  abbrev pub tension_side : Side
  tension_side = side_of h.modulus.0 sound.modulus_least (curve_of h.tension)

  abbrev pub compression_side : Side
  compression_side = side_of h.modulus.0 sound.modulus_least (curve_of h.compression)

  -- SPEC 6.3: a candidate meets the conditions of laws 0 and 1,
  abbrev pub IsotropicMeets : (trial A second : Frac) → Candidate → Type 0
  IsotropicMeets trial A second x =
      conditions.Isotropic tension_side trial A x.stress x.first × (x.growth ≈F growth_on tension_side A x.first) × (x.second ≈F second)

  -- SPEC 6.3 to 6.5: and those of each law, from the trial stress and the old variables. One that the law does not have stays as it is.
  abbrev pub MeetsUnder : Law → (trial first second : Frac) → Candidate → Type 0
  MeetsUnder IsotropicLine trial A second x = IsotropicMeets trial A second x
  MeetsUnder IsotropicCurve trial A second x = IsotropicMeets trial A second x
  MeetsUnder Kinematic trial X second x =
      conditions.Kinematic h.modulus.0 (tangent_of h.tension 0) (sound.tension.tangents_below 0 sound.tension.count_least) (radius h)
      trial X x.stress x.first x.growth × (x.second ≈F second)
  MeetsUnder Asymmetric trial A B x =
      conditions.Asymmetric tension_side compression_side trial A B x.stress x.first x.second
      × (x.growth ≈F (growth_on tension_side A x.first +F growth_on compression_side B x.second))

  -- SPEC 6.6: the trial passes a limit toward tension; equality is not passing, and law 2's limit is the radius about the centre.
  abbrev pub PassesTension : Law → (trial first second : Frac) → Type 0
  PassesTension IsotropicLine trial A second = tension_side.limit A <F trial
  PassesTension IsotropicCurve trial A second = tension_side.limit A <F trial
  PassesTension Kinematic trial X second = radius h <F (trial -F X)
  PassesTension Asymmetric trial A B = tension_side.limit A <F trial

  -- SPEC 6.6: the same toward compression,
  abbrev pub PassesCompression : Law → (trial first second : Frac) → Type 0
  PassesCompression IsotropicLine trial A second = tension_side.limit A <F neg_f trial
  PassesCompression IsotropicCurve trial A second = tension_side.limit A <F neg_f trial
  PassesCompression Kinematic trial X second = radius h <F neg_f (trial -F X)
  PassesCompression Asymmetric trial A B = compression_side.limit B <F neg_f trial

  -- and toward either.
  abbrev pub Passes : Law → (trial first second : Frac) → Type 0
  Passes law trial first second = PassesTension law trial first second ⊎ PassesCompression law trial first second
