-- What a rod in its ranges says of each of its numbers.
use Prim.Native.Nat.{◌≤◌}
use mathlib.Core.Path.{◌≡◌}
use mathlib.Core.Bool.{Bool, true, false, cond}
use native.Mathlib.Omega.{arith}
use lib.IntN.{ℤ, nat_abs}
use Rattle.refusals.proofs.FirstLaws.{both_hold}
use Rattle.ranges.specs.Ranges.{around, temperature_right, most_strain, most_stress, most_abscissa}
use Rattle.ranges.proofs.RangeMagnitudes.{around_magnitude}
use Rattle.law.specs.declared.Law.{Law}
use Rattle.law.specs.declared.Law.TheVariants.{Kinematic}
use Rattle.rod.specs.declared.Rod.{Rod}
use Rattle.rod.specs.Variables.{abscissa_right, first_right, second_right}
use Rattle.rod.specs.InRange.{counts_right, rod_in_range}
use Rattle.rod.proofs.VariableLaws.{abscissa_facts}

pub record Ranged (r : Rod) : Type 0 where
  pub strain : nat_abs r.strain.0 ≤ most_strain
  pub temperature : temperature_right r.temperature.0 ≡ true
  pub stress : nat_abs r.stress.0 ≤ most_stress
  pub first : first_right r.law r.first.0 ≡ true
  pub second : second_right r.law r.second.0 ≡ true
  pub counts : counts_right r.yielded r.pairs r.yielded_pairs ≡ true

pub ranged : (r : Rod) → rod_in_range r ≡ true → Ranged r
unfolding rod_in_range
ranged r e =
    let counts = both_hold _ (counts_right r.yielded r.pairs r.yielded_pairs) e in
    let second = both_hold _ (second_right r.law r.second.0) counts.0 in
    let first = both_hold _ (first_right r.law r.first.0) second.0 in
    let stress = both_hold _ (around most_stress r.stress.0) first.0 in
    let strain = both_hold (around most_strain r.strain.0) (temperature_right r.temperature.0) stress.0 in
    record {
      strain = around_magnitude most_strain r.strain.0 strain.0;
      temperature = strain.1;
      stress = around_magnitude most_stress r.stress.0 stress.1;
      first = first.1;
      second = second.1;
      counts = counts.1;
    }

-- The centre of law 2.
pub centre_magnitude : (law : Law) (z : ℤ) → first_right law z ≡ true → law ≡ Kinematic → nat_abs z ≤ most_stress
centre_magnitude law z e k = around_magnitude most_stress z (rw k at e)

-- A first variable of either kind.
pub first_magnitude : (t : Bool) (z : ℤ) → cond t (abscissa_right z) (around most_stress z) ≡ true → nat_abs z ≤ most_abscissa
first_magnitude true z e = (abscissa_facts z e).1
first_magnitude false z e = omega (arith, around_magnitude most_stress z e)
