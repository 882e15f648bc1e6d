-- One pair (SPEC 5.2 to 5.5, 7.9, 7.10) with 9 and 10 (SPEC 8.2, 8.5), cited by carry, accuracy and the demands; definitions only,
-- nothing is assumed.
use Rattle.std.specs.Prelude.{◌+◌, Bool, not, ◌&&◌, List, [], ◌∷◌, ℤ, pos, ◌+ℤ◌, ◌-ℤ◌, ◌*ℤ◌, leb}
use Rattle.refusals.specs.Table.{Refusal, refusal}
use Rattle.ranges.specs.Ranges.{around, most_strain, most_stress, most_count}
use Rattle.units.specs.Kinds.{nano, grain, modulus}
use Rattle.bits.specs.Field.{flag}
use Rattle.pair.specs.declared.Pair.{Pair}
use Rattle.row.specs.declared.Row.{Row}
use Rattle.sheet.specs.declared.Sheet.{Sheet}
use Rattle.sheet.specs.Thermal.{thermal_of}
use Rattle.response.specs.Response.{Outcome, outcome_of}
use Rattle.rod.specs.declared.Rod.{Rod}
use Rattle.rod.specs.declared.step.ThermalStrains.{ThermalStrains}
use Rattle.rod.specs.declared.step.Advance.{Advance}
use Rattle.rod.specs.Variables.{first_right, second_right}

-- SPEC 5.2: the strain after a pair, greater by the pair's change.
abbrev pub strain_after : Rod → Pair → ℤ
strain_after r p = r.strain.0 +ℤ p.change.0

-- SPEC 5.3: the trial stress, exact in grains.
unfoldable pub trial_of : Sheet → Rod → Pair → ℤ
trial_of h r p =
    r.stress.0 +ℤ pos h.modulus.0 *ℤ (p.change.0 -ℤ (thermal_of h p.temperature.0 -ℤ thermal_of h r.temperature.0))

-- SPEC 5.1: the thermal strains before and after a pair.
abbrev pub thermal_strains_of : Sheet → Rod → Pair → ThermalStrains
thermal_strains_of h r p = record { before = nano (thermal_of h r.temperature.0); after = nano (thermal_of h p.temperature.0) }

-- SPEC 5.4: mechanical strain, which is strain less thermal strain.
abbrev pub mechanical_of : Sheet → (strain temperature : ℤ) → ℤ
mechanical_of h strain temperature = strain -ℤ thermal_of h temperature

-- SPEC 5.4: E times plastic strain, which is E times mechanical strain less stress,
abbrev pub plastic_of : Sheet → (strain temperature stress : ℤ) → ℤ
plastic_of h strain temperature stress = pos h.modulus.0 *ℤ mechanical_of h strain temperature -ℤ stress

-- and that of a state.
abbrev pub plastic_at : Sheet → Rod → ℤ
plastic_at h r = plastic_of h r.strain.0 r.temperature.0 r.stress.0

-- SPEC 7.1, 7.11: what the pair leaves by the law, which proofs/PairSolved shows to be the rounding of the only solution.
abbrev pub outcome_after : Sheet → Rod → Pair → Outcome
outcome_after h r p = outcome_of h r.first.0 r.second.0 (trial_of h r p)

-- SPEC 7.9: the state after the pair.
abbrev pub rod_after : Rod → Pair → Outcome → Rod
rod_after r p o =
    record {
      law = r.law;
      yielded = o.yielded;
      strain = nano (strain_after r p);
      temperature = p.temperature;
      stress = grain o.stress;
      first = grain o.first;
      second = grain o.second;
      pairs = r.pairs + 1;
      yielded_pairs = r.yielded_pairs + flag o.yielded;
    }

-- SPEC 7.10: the row of the pair.
abbrev pub row_after : Sheet → Rod → Pair → Outcome → Row
row_after h r p o =
    record {
      yielded = o.yielded;
      branch = o.branch;
      tangent = modulus o.tangent;
      stress = grain o.stress;
      plastic = grain (plastic_of h (strain_after r p) p.temperature.0 o.stress);
    }

-- SPEC 7.9, 7.10: both, from what the law left,
abbrev pub advance_by : Sheet → Rod → Pair → Outcome → Advance
advance_by h r p o = record { rod = rod_after r p o; row = row_after h r p o }

-- and from sheet, rod and pair.
unfoldable pub advance_of : Sheet → Rod → Pair → Advance
advance_of h r p = advance_by h r p (outcome_after h r p)

-- SPEC 8.2: 9 where the new strain leaves its range.
unfoldable pub strain_leaves : Rod → Pair → Bool
strain_leaves r p = not (around most_strain (strain_after r p))

-- SPEC 8.5: 10 where the new stress, a new variable or n + 1 isn't in its range.
unfoldable pub leaves_range : Rod → (stress first second : ℤ) → Bool
leaves_range r stress first second =
    not (around most_stress stress && first_right r.law first && second_right r.law second && leb (r.pairs + 1) most_count)

-- SPEC 8.2: the lines of the pairs' stage, in their order, behind the pair's own 8.
unfoldable pub step_refusals : Sheet → Rod → Pair → List Refusal
step_refusals h r p =
    refusal 9 (strain_leaves r p)
    ∷ refusal 10 (let o = outcome_after h r p in leaves_range r o.stress o.first o.second)
    ∷ []
