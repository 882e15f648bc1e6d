-- The kinds of quantity (SPEC 2.1, 2.2), each a number made one of its kind, cited wherever a quantity is; definitions only, nothing is
-- assumed.
use Rattle.std.specs.Prelude.{ℕ, ℤ}
use Rattle.units.specs.declared.Nano.{Nano}
use Rattle.units.specs.declared.Grain.{Grain}
use Rattle.units.specs.declared.Tenths.{Tenths}
use Rattle.units.specs.declared.Length.{Length}
use Rattle.units.specs.declared.Magnitude.{Magnitude}
use Rattle.units.specs.declared.Modulus.{Modulus}
use Rattle.units.specs.declared.Expansion.{Expansion}
use Rattle.units.specs.declared.Curvature.{Curvature}

-- SPEC 2.1: a strain in nano, the papers' term for 10⁻⁹.
abbrev pub nano : ℤ → Nano
nano z = record { 0 = z }

-- SPEC 2.1: a stress in grains, the papers' term for 10⁻⁹ MPa.
abbrev pub grain : ℤ → Grain
grain z = record { 0 = z }

-- SPEC 2.1: a temperature in tenths of a degree.
abbrev pub tenths : ℤ → Tenths
tenths z = record { 0 = z }

-- SPEC 2.2: a strain without a sign, in nano: the length of a segment, the magnitude of a strain.
abbrev pub length_of : ℕ → Length
length_of n = record { 0 = n }

-- SPEC 2.2: grains without a sign: the magnitude of a stress, a yield, a yield limit, an abscissa.
abbrev pub magnitude : ℕ → Magnitude
magnitude n = record { 0 = n }

-- SPEC 2.1: a modulus in MPa.
abbrev pub modulus : ℕ → Modulus
modulus n = record { 0 = n }

-- SPEC 2.1: an expansion, in nano for each tenth of a degree.
abbrev pub expansion : ℕ → Expansion
expansion n = record { 0 = n }

-- SPEC 2.1: a curvature, in nano for each mm of offset.
abbrev pub curvature : ℤ → Curvature
curvature z = record { 0 = z }
