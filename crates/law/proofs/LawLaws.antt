-- A law and its number tell each other.
use Prim.Native.Nat.{ℕ, zero, suc, ◌<◌}
use mathlib.Core.Path.{◌≡◌, refl}
use native.Mathlib.Omega.{arith}
use Rattle.law.specs.declared.Law.{Law}
use Rattle.law.specs.declared.Law.TheVariants.{IsotropicLine, IsotropicCurve, Kinematic, Asymmetric}
use Rattle.law.specs.Laws.{number_of, law_of}

pub law_of_number : (l : Law) → law_of (number_of l) ≡ l
unfolding law_of
law_of_number IsotropicLine = refl
law_of_number IsotropicCurve = refl
law_of_number Kinematic = refl
law_of_number Asymmetric = refl

pub number_of_law : (n : ℕ) → n < 4 → number_of (law_of n) ≡ n
unfolding law_of
number_of_law zero h = refl
number_of_law (suc zero) h = refl
number_of_law (suc (suc zero)) h = refl
number_of_law (suc (suc (suc zero))) h = refl
number_of_law (suc (suc (suc (suc n)))) h = absurd (omega arith)

pub number_below_four : (l : Law) → number_of l < 4
number_below_four IsotropicLine = omega arith
number_below_four IsotropicCurve = omega arith
number_below_four Kinematic = omega arith
number_below_four Asymmetric = omega arith
