-- What a step asks of the law's answer, and what stays in its range.
use Prim.Native.Nat.{◌+◌, ◌≤◌}
use mathlib.Core.Path.{◌≡◌, sym, ap, ◌∙◌}
use mathlib.Core.Bool.{true, false}
use borrow.Author.Tests.{eqb-true, leb-true, not-false}
use lib.IntN.{ℤ, nat_abs}
use lib.Dec.{eqb, leb}
use Rattle.refusals.proofs.FirstLaws.{both_hold, three_hold}
use Rattle.ranges.specs.Ranges.{around, most_stress, most_count}
use Rattle.ranges.proofs.RangeMagnitudes.{around_magnitude}
use Rattle.law.specs.Laws.{law_of, number_of}
use Rattle.law.proofs.LawLaws.{law_of_number}
use Rattle.law.specs.declared.Law.{Law}
use Rattle.law.specs.declared.Law.TheVariants.{IsotropicLine, IsotropicCurve, Kinematic, Asymmetric}
use Rattle.sheet.specs.declared.Sheet.{Sheet}
use Rattle.response.specs.Response.{AbscissaRight, VariablesRight}
use Rattle.rod.specs.declared.Rod.{Rod}
use Rattle.rod.specs.Variables.{abscissa_right, first_right, second_right}
use Rattle.rod.specs.Against.{belongs}
use Rattle.rod.specs.Steps.{leaves_range}
use Rattle.rod.proofs.VariableLaws.{abscissa_facts}

-- The variables in their ranges, as the law's answer asks for them.
abscissa_is : (z : ℤ) → abscissa_right z ≡ true → AbscissaRight z
abscissa_is z e = let facts = abscissa_facts z e in record { not_negative = facts.0; most = facts.1 }

pub variables_right : (law : Law) (first second : ℤ) → first_right law first ≡ true → second_right law second ≡ true → VariablesRight law first second
variables_right IsotropicLine first second f s = abscissa_is first f
variables_right IsotropicCurve first second f s = abscissa_is first f
variables_right Kinematic first second f s = around_magnitude most_stress first f
variables_right Asymmetric first second f s = (abscissa_is first f, abscissa_is second s)

-- A state that belongs to a sheet has its law.
pub same_law : (h : Sheet) (r : Rod) → belongs h r ≡ true → r.law ≡ h.law
unfolding belongs
same_law h r e =
    let same = eqb-true (number_of r.law) (number_of h.law) (both_hold (eqb (number_of r.law) (number_of h.law)) _ e).0 in
    sym (law_of_number r.law) ∙ ap law_of same ∙ law_of_number h.law

-- What doesn't leave its range stays in it.
pub record Stays (r : Rod) (s x y : ℤ) : Type 0 where
  pub stress : nat_abs s ≤ most_stress
  pub first : first_right r.law x ≡ true
  pub second : second_right r.law y ≡ true
  pub pairs : r.pairs + 1 ≤ most_count

pub stays : (r : Rod) (stress first second : ℤ) → leaves_range r stress first second ≡ false → Stays r stress first second
unfolding leaves_range
stays r stress first second e =
    let count = both_hold _ (leb (r.pairs + 1) most_count) (not-false _ e) in
    let variables = three_hold (around most_stress stress) (first_right r.law first) (second_right r.law second) count.0 in
    record {
      stress = around_magnitude most_stress stress variables.0;
      first = variables.1;
      second = variables.2;
      pairs = leb-true (r.pairs + 1) most_count count.1;
    }
