-- One side of a traction curve as the laws see it (SPEC 4.1, 4.7, 4.9), cited by conditions, solution and roundings; nothing is assumed:
-- what the theorems ask of T is a record, and proofs/Curves shows it of the curve of a sheet that passes.
use Rattle.std.specs.Prelude.{pos}
use Rattle.fractions.specs.Fraction.{Frac, ◌≤F◌, ◌<F◌, ◌≈F◌, whole, ◌-F◌, ◌*F◌}

-- SPEC 4.1: the yield, and the curve T, which gives the yield limit at each abscissa.
pub record Side : Type 0 where
  pub yield : Frac
  pub limit : Frac → Frac

-- SPEC 4.7: E times the plastic strain accumulated so far. An abscissa is its yield limit plus that, so that it is A - T(A).
abbrev pub accumulated : Side → Frac → Frac
accumulated side A = A -F side.limit A

-- SPEC 4.9, what the laws use of T: it is one function of the number, whatever the denominator; at the yield, above nought, it is the
-- yield; from there on it never falls, and rises by less than the abscissa does, since every tangent modulus lies below E.
pub record Hardens (side : Side) : Type 0 where
  pub respects : {x y : Frac} → x ≈F y → side.limit x ≈F side.limit y
  pub positive : whole (pos 0) <F side.yield
  pub starts : side.limit side.yield ≈F side.yield
  pub rises : {x y : Frac} → side.yield ≤F x → x ≤F y → side.limit x ≤F side.limit y
  pub gentle : {x y : Frac} → side.yield ≤F x → x <F y → accumulated side x <F accumulated side y

-- SPEC 4.9, what the bound on rounding uses besides: tangents don't rise along a side, so of two secants past the yield the one further
-- right is no steeper. Said by products of gaps and rises, since a slope would need a division.
pub record Flattens (side : Side) : Type 0 where
  pub falls : {x y x' y' : Frac} → side.yield ≤F x → x ≤F y → x' ≤F y' → x ≤F x' → y ≤F y'
      → ((y -F x) *F (side.limit y' -F side.limit x')) ≤F ((y' -F x') *F (side.limit y -F side.limit x))
