-- A fraction rounded down or up to a whole number (SPEC 2.7), cited wherever a stored number is called a rounding; definitions only,
-- nothing is assumed.
use Rattle.std.specs.Prelude.{ℤ, pos, ◌+ℤ◌, ◌-ℤ◌}
use Rattle.std.specs.Int.Signed.{shr_z}
use Rattle.fractions.specs.Fraction.{Frac, whole, ◌≤F◌, ◌<F◌}

-- SPEC 2.7: z is x rounded down where z ≤ x < z + 1.
pub record Floor (x : Frac) (z : ℤ) : Type 0 where
  pub below : whole z ≤F x
  pub above : x <F whole (z +ℤ pos 1)

-- SPEC 2.7: the same as a number that computes; `shr_z` divides and rounds down. proofs/Rounded shows that it is such a z.
abbrev pub floor_f : Frac → ℤ
floor_f x = shr_z x.num x.den

-- SPEC 2.7: z is x rounded up where z - 1 < x ≤ z.
pub record Ceiling (x : Frac) (z : ℤ) : Type 0 where
  pub below : whole (z -ℤ pos 1) <F x
  pub above : x ≤F whole z
