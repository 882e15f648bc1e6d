-- The ranges of a rod's variables by sign and magnitude.
use Prim.Native.Nat.{◌≤◌}
use mathlib.Core.Path.{◌≡◌, refl, sym, ap}
use mathlib.Core.Bool.{Bool, true, false, ◌&&◌, true≢false}
use borrow.Author.Tests.{leb-true}
use lib.IntN.{ℤ, pos, negsuc, nat_abs}
use lib.Dec.{leb, leb-zero}
use Rattle.ranges.specs.Ranges.{most_abscissa}
use Rattle.refusals.proofs.FirstLaws.{both_hold}
use Rattle.units.specs.Signs.{is_neg}
use Rattle.rod.specs.Variables.{abscissa_right}

-- No abscissa is below zero,
pub abscissa_below : (z : ℤ) → is_neg z ≡ true → abscissa_right z ≡ false
abscissa_below (pos n) e = absurd (true≢false (sym e))
abscissa_below (negsuc n) e = refl

-- and one from zero on is right by its magnitude.
pub abscissa_from : (z : ℤ) → is_neg z ≡ false → abscissa_right z ≡ leb (nat_abs z) most_abscissa
abscissa_from (pos n) e = ap (λ (t : Bool). t && leb n most_abscissa) (leb-zero n)
abscissa_from (negsuc n) e = absurd (true≢false e)

pub abscissa_facts : (z : ℤ) → abscissa_right z ≡ true → (is_neg z ≡ false) × (nat_abs z ≤ most_abscissa)
abscissa_facts (pos n) e = (refl, leb-true n most_abscissa (both_hold (leb 0 n) (leb n most_abscissa) e).1)
abscissa_facts (negsuc n) e = absurd (true≢false (sym e))
