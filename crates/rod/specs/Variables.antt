-- The ranges of the two variables under a law (SPEC 3.11), cited by InRange, Steps and state; definitions only, nothing is assumed.
use Rattle.std.specs.Prelude.{Bool, not, ◌||◌, cond, ℤ, pos}
use Rattle.ranges.specs.Ranges.{around, most_stress, most_abscissa}
use Rattle.law.specs.declared.Law.{Law}
use Rattle.law.specs.Laws.{first_is_abscissa, has_second}
use Rattle.bits.specs.Field.{withinℤ}

-- SPEC 3.11: an abscissa's range.
abbrev pub abscissa_right : ℤ → Bool
abscissa_right a = withinℤ (pos 0) (pos most_abscissa) a

-- SPEC 3.11: the first variable's range: an abscissa's, or under law 2 the centre's.
abbrev pub first_right : Law → ℤ → Bool
first_right law z = cond (first_is_abscissa law) (abscissa_right z) (around most_stress z)

-- SPEC 3.11, 8.3: the second variable's; where the law has none, any is right.
abbrev pub second_right : Law → ℤ → Bool
second_right law z = not (has_second law) || abscissa_right z
