-- The bounds of fields and quantities (SPEC 3.6), each under one name, which layouts, conditions and refusals cite; definitions only,
-- nothing is assumed.
use Rattle.std.specs.Prelude.{ℕ, Bool, ℤ, pos, neg_ℤ}
use Rattle.bits.specs.Field.{withinℤ}

-- SPEC 3.6: from -m to m.
abbrev pub around : ℕ → ℤ → Bool
around m z = withinℤ (neg_ℤ (pos m)) (pos m) z

-- SPEC 3.7: the greatest E, in MPa.
abbrev pub most_modulus : ℕ
most_modulus = 400000

-- SPEC 3.7: the greatest expansion.
abbrev pub most_expansion : ℕ
most_expansion = 10000

-- SPEC 3.7: the range of a temperature, in sheet, state and pair alike.
abbrev pub temperature_right : ℤ → Bool
temperature_right t = withinℤ (neg_ℤ (pos 2000)) (pos 20000) t

-- SPEC 3.7: the greatest yield in a sheet, in 10⁻³ MPa,
abbrev pub most_yield : ℕ
most_yield = 10000000

-- and the grains that one of these is (SPEC 3.9).
abbrev pub grains : ℕ
grains = 1000000

-- SPEC 3.8: the greatest length of a segment.
abbrev pub most_length : ℕ
most_length = 100000000

-- SPEC 3.11: the greatest magnitude of a strain.
abbrev pub most_strain : ℕ
most_strain = 100000000

-- SPEC 3.12: the greatest magnitude of a change of strain.
abbrev pub most_change : ℕ
most_change = 200000000

-- SPEC 3.11: the greatest magnitude of a stress or a centre.
abbrev pub most_stress : ℕ
most_stress = 100000000000000

-- SPEC 3.11: the greatest abscissa.
abbrev pub most_abscissa : ℕ
most_abscissa = 100000000000000000

-- SPEC 3.13: the pairs of the longest list.
abbrev pub most_pairs : ℕ
most_pairs = 4096

-- SPEC 3.11: the greatest n.
abbrev pub most_count : ℕ
most_count = 4294967295

-- SPEC 15.2: the most rods of one section,
abbrev pub most_rods : ℕ
most_rods = 32

-- the greatest area of a rod, in mm²,
abbrev pub most_area : ℕ
most_area = 1000000

-- and the greatest magnitude of its offset, in mm.
abbrev pub most_offset : ℕ
most_offset = 1000

-- SPEC 15.3: the greatest magnitude of a change of curvature.
abbrev pub most_curvature : ℕ
most_curvature = 1000000

-- SPEC 17.2: the greatest tolerance of a grading.
abbrev pub most_tolerance : ℕ
most_tolerance = 1000000000000
