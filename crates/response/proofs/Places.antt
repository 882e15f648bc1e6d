-- The variable that moved stands in its place: a law's answer on one variable is its answer for the state.
use Prim.Native.Nat.{ℕ}
use mathlib.Core.Path.{◌≡◌, refl, sym, ap, ◌∙◌}
use mathlib.Core.Bool.{Bool, true, false, cond}
use mathlib.Core.Logic.{◌⊎◌, inl, inr}
use native.Mathlib.Omega.{arith}
use lib.IntN.{ℤ}
use Rattle.branch.specs.declared.Branch.TheVariants.{Tension, Compression}
use Rattle.branch.specs.Branches.{branch_number}
use Rattle.law.specs.declared.Law.{Law}
use Rattle.law.specs.declared.Law.TheVariants.{IsotropicLine, IsotropicCurve, Kinematic, Asymmetric}
use Rattle.law.specs.Laws.{has_second}
use Rattle.units.specs.declared.Grain.{Grain}
use Rattle.units.specs.Signs.{is_neg}
use Rattle.curve.specs.Curve.{Curve}
use Rattle.curve.specs.Sides.{curve_of}
use Rattle.sheet.specs.declared.Sheet.{Sheet}
use Rattle.sheet.specs.Sound.{tangent_of}
use Rattle.response.specs.declared.Motion.{Motion}
use Rattle.response.specs.declared.Motion.TheVariants as motions
use Rattle.response.specs.Response.{flow_branch, Moved, isotropic_moved, kinematic_moved, in_first, in_second, asymmetric_outcome, outcome_under, outcome_of, moved_meaning, settled_by, response_meaning}

-- Law 0 or 1.
abbrev pub IsIsotropic : Law → Type 0
IsIsotropic law = (law ≡ IsotropicLine) ⊎ (law ≡ IsotropicCurve)

-- The branch of a flow goes by the trial's sign.
branch_of_sign : (s : ℤ) (yielded negative : Bool) → is_neg s ≡ negative → flow_branch yielded s ≡ cond negative Tension Compression → ⊥
branch_of_sign s false true h e = omega (arith, ap branch_number e)
branch_of_sign s false false h e = omega (arith, ap branch_number e)
branch_of_sign s true true h e = omega (arith, ap branch_number (rw h at e))
branch_of_sign s true false h e = omega (arith, ap branch_number (rw h at e))

pub isotropic_branch : (E : ℕ) (curve : Curve) (abscissa trial : ℤ) (negative : Bool) → is_neg trial ≡ negative
    → (isotropic_moved E curve abscissa trial).branch ≡ cond negative Tension Compression → ⊥
unfolding isotropic_moved
isotropic_branch E curve abscissa trial negative h e = branch_of_sign trial (isotropic_moved E curve abscissa trial).yielded negative h e

module _ (h : Sheet) (first second trial : Grain) where
  abbrev E : ℕ
  E = h.modulus.0

  -- The answer that a motion of the first variable makes, where the law has no second,
  moves_first : (r : Motion) → has_second h.law ≡ false
      → response_meaning (settled_by h first second trial r) ≡ in_first (moved_meaning E first.0 trial.0 r) second.0
  unfolding moved_meaning
  moves_first motions.Still e = refl
  moves_first (motions.Tension f) e = refl
  moves_first (motions.Compression f) e = rw e

  has_no_second : {law : Law} → h.law ≡ law → has_second law ≡ false → has_second h.law ≡ false
  has_no_second is e = ap has_second is ∙ e

  pub isotropic_response : (r : Motion) → IsIsotropic h.law
      → moved_meaning E first.0 trial.0 r ≡ isotropic_moved E (curve_of h.tension) first.0 trial.0
      → response_meaning (settled_by h first second trial r) ≡ outcome_of h first.0 second.0 trial.0
  unfolding outcome_under
  isotropic_response r (inl is) e = moves_first r (has_no_second is refl) ∙ rw is (ap (λ (m : Moved). in_first m second.0) e)
  isotropic_response r (inr is) e = moves_first r (has_no_second is refl) ∙ rw is (ap (λ (m : Moved). in_first m second.0) e)

  pub kinematic_response : (r : Motion) → h.law ≡ Kinematic
      → moved_meaning E first.0 trial.0 r ≡ kinematic_moved E (tangent_of h.tension 0) h.tension.yield_stress.0 first.0 trial.0
      → response_meaning (settled_by h first second trial r) ≡ outcome_of h first.0 second.0 trial.0
  unfolding outcome_under
  kinematic_response r is e = moves_first r (has_no_second is refl) ∙ rw is (ap (λ (m : Moved). in_first m second.0) e)

  -- Law 3 answers on the side of the trial's sign.
  abbrev variable_of : Bool → ℤ
  variable_of negative = cond negative second.0 first.0

  pub asymmetric_response : (r : Motion) (negative : Bool) → h.law ≡ Asymmetric → is_neg trial.0 ≡ negative
      → moved_meaning E (variable_of negative) trial.0 r ≡ isotropic_moved E (curve_of (cond negative h.compression h.tension)) (variable_of negative) trial.0
      → response_meaning (settled_by h first second trial r) ≡ outcome_of h first.0 second.0 trial.0
  unfolding outcome_under asymmetric_outcome moved_meaning
  asymmetric_response motions.Still true is s e = rw (is, s) (ap (in_second first.0) e)
  asymmetric_response (motions.Tension f) true is s e =
      absurd (isotropic_branch E (curve_of h.compression) second.0 trial.0 true s (sym (ap (λ (m : Moved). m.branch) e)))
  asymmetric_response (motions.Compression f) true is s e = rw (is, s) (ap (in_second first.0) e)
  asymmetric_response motions.Still false is s e = rw (is, s) (ap (λ (m : Moved). in_first m second.0) e)
  asymmetric_response (motions.Tension f) false is s e = rw (is, s) (ap (λ (m : Moved). in_first m second.0) e)
  asymmetric_response (motions.Compression f) false is s e =
      absurd (isotropic_branch E (curve_of h.tension) first.0 trial.0 false s (sym (ap (λ (m : Moved). m.branch) e)))
