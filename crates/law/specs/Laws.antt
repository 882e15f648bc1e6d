-- The four laws (SPEC 1.3), their numbers and what variables each has, cited by sheet, response, rod, state and accuracy; definitions only,
-- nothing is assumed.
use Rattle.std.specs.Prelude.{ℕ, Bool, true, false, cond, eqb}
use Rattle.law.specs.declared.Law.{Law}
use Rattle.law.specs.declared.Law.TheVariants.{IsotropicLine, IsotropicCurve, Kinematic, Asymmetric}

-- SPEC 1.3: the number of each law,
abbrev pub number_of : Law → ℕ
number_of IsotropicLine = 0
number_of IsotropicCurve = 1
number_of Kinematic = 2
number_of Asymmetric = 3

-- and the law that two bits name. Each of their values is one.
unfoldable pub law_of : ℕ → Law
law_of number = cond (eqb number 0) IsotropicLine (cond (eqb number 1) IsotropicCurve (cond (eqb number 2) Kinematic Asymmetric))

-- SPEC 1.3: whether the first variable is an abscissa; under the kinematic law alone it is the centre.
abbrev pub first_is_abscissa : Law → Bool
first_is_abscissa IsotropicLine = true
first_is_abscissa IsotropicCurve = true
first_is_abscissa Kinematic = false
first_is_abscissa Asymmetric = true

-- SPEC 1.3: whether there is a second variable, the abscissa of the compression side.
abbrev pub has_second : Law → Bool
has_second IsotropicLine = false
has_second IsotropicCurve = false
has_second Kinematic = false
has_second Asymmetric = true
