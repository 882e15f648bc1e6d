-- What a pair leaves under the law of a sheet (SPEC 7.6 to 7.8, 7.11), and what the law's answer stands for (SPEC 8.8), cited by rod,
-- accuracy and the demands; definitions only, nothing is assumed. One side and the centre are flow's `Stored`; law 3 is the isotropic
-- law on one side. proofs/Laws shows that the numbers are the roundings of SPEC 7.2 to 7.5.
use Rattle.std.specs.Prelude.{ℕ, ◌≤◌, ◌≡◌, Bool, true, false, cond, ℤ, pos, nat_abs, ◌-ℤ◌}
use Rattle.branch.specs.declared.Branch.{Branch}
use Rattle.branch.specs.declared.Branch.TheVariants as branches
use Rattle.branch.specs.Branches.{yielded_by}
use Rattle.ranges.specs.Ranges.{most_stress, most_abscissa}
use Rattle.law.specs.declared.Law.{Law}
use Rattle.law.specs.declared.Law.TheVariants.{IsotropicLine, IsotropicCurve, Kinematic, Asymmetric}
use Rattle.law.specs.Laws.{has_second}
use Rattle.units.specs.declared.Grain.{Grain}
use Rattle.units.specs.Signs.{is_neg}
use Rattle.curve.specs.Curve.{Curve, limit_at}
use Rattle.curve.specs.Tangent.{tangent_at}
use Rattle.curve.specs.Sides.{curve_of}
use Rattle.sheet.specs.declared.Sheet.{Sheet}
use Rattle.sheet.specs.Sound.{tangent_of}
use Rattle.flow.specs.Stored.{isotropic_stored, kinematic_stored}
use Rattle.response.specs.declared.Motion.{Motion}
use Rattle.response.specs.declared.Motion.TheVariants.{Still, Tension, Compression}
use Rattle.response.specs.declared.Response.{Response}

-- SPEC 7.7, 7.11: the branch. A rod flows toward the trial: `s` is the trial stress, for law 2 as seen from the old centre.
abbrev pub flow_branch : (yielded : Bool) → (s : ℤ) → Branch
flow_branch yielded s = cond yielded (cond (is_neg s) branches.Compression branches.Tension) branches.Elastic

-- SPEC 7.6 to 7.8, 7.11: what a pair leaves of the stress and of the variable that the law moves, an abscissa or the centre.
pub record Moved : Type 0 where
  pub yielded : Bool
  pub branch : Branch
  pub stress : ℤ
  pub variable : ℤ
  pub tangent : ℕ

-- SPEC 7.8, 7.11, one curve of the isotropic law, E being Young's modulus: without a yield the tangent is E, else the one at the new
-- abscissa. A negative abscissa doesn't occur; its magnitude stands for it.
unfoldable pub isotropic_moved : (E : ℕ) → Curve → (abscissa trial : ℤ) → Moved
isotropic_moved E curve abscissa trial =
    let side = isotropic_stored (limit_at E curve) trial (nat_abs abscissa) in
    record {
      yielded = side.yielded;
      branch = flow_branch side.yielded trial;
      stress = side.stress;
      variable = pos side.abscissa;
      tangent = cond side.yielded (tangent_at E curve side.abscissa) E;
    }

-- SPEC 7.8, 7.11, kinematic: the tangent of a flow is that of the only segment.
unfoldable pub kinematic_moved : (E tangent yield : ℕ) → (centre trial : ℤ) → Moved
kinematic_moved E tangent yield centre trial =
    let stored = kinematic_stored E tangent yield trial centre in
    record {
      yielded = stored.yielded;
      branch = flow_branch stored.yielded (trial -ℤ centre);
      stress = stored.stress;
      variable = stored.centre;
      tangent = cond stored.yielded tangent E;
    }

-- SPEC 7.6 to 7.8, 7.11: what a pair leaves of the stress and of both variables of a state.
pub record Outcome : Type 0 where
  pub yielded : Bool
  pub branch : Branch
  pub stress : ℤ
  pub first : ℤ
  pub second : ℤ
  pub tangent : ℕ

-- SPEC 7.7: what moved is the first variable,
abbrev pub in_first : Moved → (second : ℤ) → Outcome
in_first m second =
    record { yielded = m.yielded; branch = m.branch; stress = m.stress; first = m.variable; second = second; tangent = m.tangent }

-- or the second; the other one stays.
abbrev pub in_second : (first : ℤ) → Moved → Outcome
in_second first m =
    record { yielded = m.yielded; branch = m.branch; stress = m.stress; first = first; second = m.variable; tangent = m.tangent }

-- SPEC 7.11, asymmetric: the side of the trial's sign, by the isotropic law. Limits lie above 0, so that no trial passes the other one.
unfoldable pub asymmetric_outcome : (E : ℕ) → (tension compression : Curve) → (first second trial : ℤ) → Outcome
asymmetric_outcome E tension compression first second trial =
    cond (is_neg trial) (in_second first (isotropic_moved E compression second trial)) (in_first (isotropic_moved E tension first trial) second)

-- SPEC 7.11: what a pair leaves, law by law, from the variables of the state and the trial stress,
unfoldable pub outcome_under : Law → Sheet → (first second trial : ℤ) → Outcome
outcome_under IsotropicLine h first second trial = in_first (isotropic_moved h.modulus.0 (curve_of h.tension) first trial) second
outcome_under IsotropicCurve h first second trial = in_first (isotropic_moved h.modulus.0 (curve_of h.tension) first trial) second
outcome_under Kinematic h first second trial =
    in_first (kinematic_moved h.modulus.0 (tangent_of h.tension 0) h.tension.yield_stress.0 first trial) second
outcome_under Asymmetric h first second trial =
    asymmetric_outcome h.modulus.0 (curve_of h.tension) (curve_of h.compression) first second trial

-- and that under the law of the sheet.
abbrev pub outcome_of : Sheet → (first second trial : ℤ) → Outcome
outcome_of h first second trial = outcome_under h.law h first second trial

-- SPEC 8.8: the numbers of the law's answer.
abbrev pub response_meaning : Response → Outcome
response_meaning r =
    record {
      yielded = yielded_by r.branch;
      branch = r.branch;
      stress = r.stress.0;
      first = r.first.0;
      second = r.second.0;
      tangent = r.tangent.0;
    }

-- SPEC 8.8: what each case of a motion stands for, of one variable. Where nothing flowed the stress is the trial and the variable stays.
unfoldable pub moved_meaning : (E : ℕ) → (variable trial : ℤ) → Motion → Moved
moved_meaning E variable trial Still = record { yielded = false; branch = branches.Elastic; stress = trial; variable = variable; tangent = E }
moved_meaning E variable trial (Tension f) =
    record { yielded = true; branch = branches.Tension; stress = f.stress.0; variable = f.variable.0; tangent = f.tangent.0 }
moved_meaning E variable trial (Compression f) =
    record { yielded = true; branch = branches.Compression; stress = f.stress.0; variable = f.variable.0; tangent = f.tangent.0 }

-- SPEC 7.7: the law's answer, settled here alone: a flow toward compression moves the second variable if there is one, any other the first.
abbrev pub settled_by : Sheet → (first second trial : Grain) → Motion → Response
settled_by h first second trial Still =
    record { branch = branches.Elastic; stress = trial; first = first; second = second; tangent = h.modulus }
settled_by h first second trial (Tension f) =
    record { branch = branches.Tension; stress = f.stress; first = f.variable; second = second; tangent = f.tangent }
settled_by h first second trial (Compression f) =
    let both = has_second h.law in
    record {
      branch = branches.Compression;
      stress = f.stress;
      first = cond both first f.variable;
      second = cond both f.variable second;
      tangent = f.tangent;
    }

-- SPEC 3.11: an abscissa in its range.
pub record AbscissaRight (z : ℤ) : Type 0 where
  pub not_negative : is_neg z ≡ false
  pub most : nat_abs z ≤ most_abscissa

-- SPEC 3.11: the variables that the law has, in their ranges.
abbrev pub VariablesRight : Law → (first second : ℤ) → Type 0
VariablesRight IsotropicLine first second = AbscissaRight first
VariablesRight IsotropicCurve first second = AbscissaRight first
VariablesRight Kinematic first second = nat_abs first ≤ most_stress
VariablesRight Asymmetric first second = AbscissaRight first × AbscissaRight second

-- SPEC 5.3: with a sheet that passes no trial stress from a state and a pair in their ranges is greater.
abbrev pub most_trial : ℕ
most_trial = 1000000000000000
