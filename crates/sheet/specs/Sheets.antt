-- The values that a sheet's bytes hold (SPEC 3.7 to 3.9) and 1, 2, 3 and 13 (SPEC 8.2), for any bytes of any length, cited by judge,
-- tie_rod, rod_log, board and the demands; definitions only, nothing is assumed.
use Rattle.std.specs.Prelude.{ℕ, zero, suc, ◌+◌, ◌-◌, ◌*◌, Bool, true, not, ◌&&◌, ◌||◌, cond, List, [], ◌∷◌, ◌++◌, length, replicate, ℤ, eqb, leb, ltb}
use Rattle.refusals.specs.Table.{Refusal, refusal}
use Rattle.ranges.specs.Ranges.{temperature_right, most_modulus, most_expansion, most_yield, most_length, grains}
use Rattle.units.specs.Kinds.{tenths, length_of, magnitude, modulus, expansion}
use Rattle.law.specs.declared.Law.{Law}
use Rattle.law.specs.declared.Law.TheVariants.{IsotropicLine, IsotropicCurve, Kinematic, Asymmetric}
use Rattle.law.specs.Laws.{law_of, has_second}
use Rattle.curve.specs.declared.Segment.{Segment}
use Rattle.curve.specs.declared.Side.{Side}
use Rattle.curve.specs.Sides.{most_segments, flat}
use Rattle.bits.specs.Field.{within, flag}
use Rattle.bits.specs.Layout.{field_at, field_from, whole_at, whole_from}
use Rattle.expansion.specs.declared.Point.{Point}
use Rattle.expansion.specs.declared.Points.{Points}
use Rattle.expansion.specs.declared.Coefficients.{Coefficients}
use Rattle.expansion.specs.declared.Coefficients.TheVariants.{Single, AtPoints}
use Rattle.expansion.specs.Points.{most_points, no_point, point_right, temperatures_rise}
use Rattle.sheet.specs.declared.Sheet.{Sheet}
use Rattle.sheet.specs.SheetLayout.{header_layout, header_length, segment_layout, segment_at, point_layout, point_at, sheet_length}

-- SPEC 3.7: the ten fields of the header.
abbrev pub law_in : List ℕ → Law
law_in s = law_of (field_at header_layout s 0)

abbrev pub tension_count : List ℕ → ℕ
tension_count s = field_at header_layout s 1

abbrev pub compression_count : List ℕ → ℕ
compression_count s = field_at header_layout s 2

abbrev pub modulus_in : List ℕ → ℕ
modulus_in s = field_at header_layout s 3

abbrev pub expansion_in : List ℕ → ℕ
expansion_in s = field_at header_layout s 4

abbrev pub reference_in : List ℕ → ℤ
reference_in s = whole_at header_layout s 5

abbrev pub tension_yield : List ℕ → ℕ
tension_yield s = field_at header_layout s 6

abbrev pub compression_yield : List ℕ → ℕ
compression_yield s = field_at header_layout s 7

abbrev pub header_zero_bits : List ℕ → ℕ
header_zero_bits s = field_at header_layout s 8

abbrev pub point_count : List ℕ → ℕ
point_count s = field_at header_layout s 9

-- SPEC 3.8: the segments of both sides together.
abbrev pub segment_count : List ℕ → ℕ
segment_count s = tension_count s + compression_count s

-- SPEC 3.8: the two fields of segment i.
abbrev pub segment_length_in : List ℕ → ℕ → ℕ
segment_length_in s i = field_from (segment_at i) segment_layout s 0

abbrev pub segment_tangent_in : List ℕ → ℕ → ℕ
segment_tangent_in s i = field_from (segment_at i) segment_layout s 1

-- SPEC 3.8: the three fields of point i.
abbrev pub point_temperature_in : List ℕ → ℕ → ℤ
point_temperature_in s i = whole_from (point_at (segment_count s) i) point_layout s 0

abbrev pub point_zero_bits : List ℕ → ℕ → ℕ
point_zero_bits s i = field_from (point_at (segment_count s) i) point_layout s 1

abbrev pub point_coefficient_in : List ℕ → ℕ → ℕ
point_coefficient_in s i = field_from (point_at (segment_count s) i) point_layout s 2

-- SPEC 8.2: how long the sheet is by its own counts, right or wrong.
abbrev pub counted_length : List ℕ → ℕ
counted_length s = sheet_length (segment_count s) (point_count s)

-- SPEC 3.8: a test that holds for every number below n, such as each segment of a side.
unfoldable pub all_below : (ℕ → Bool) → ℕ → Bool
all_below test zero = true
all_below test (suc n) = all_below test n && test n

-- SPEC 1.3, 3.7: the most segments in tension,
abbrev pub most_tension : Law → ℕ
most_tension IsotropicLine = 1
most_tension IsotropicCurve = most_segments
most_tension Kinematic = 1
most_tension Asymmetric = 1

-- and how many there are in compression.
abbrev pub compression_of : Law → ℕ
compression_of law = flag (has_second law)

-- SPEC 3.7: the single expansion, which only a sheet without points has.
abbrev pub expansion_right : (points single : ℕ) → Bool
expansion_right points single = cond (eqb points 0) (within 0 most_expansion single) (eqb single 0)

-- SPEC 3.7: the compression yield, which only law 3 has.
abbrev pub compression_yield_right : Law → ℕ → Bool
compression_yield_right law yield = cond (has_second law) (within 1 most_yield yield) (eqb yield 0)

-- SPEC 3.8: the length of segment i of a side that has `count` segments, the first of them being segment `first` of the sheet.
abbrev pub length_right : List ℕ → ℕ → ℕ → ℕ → Bool
length_right s first count i =
    cond (eqb (i + 1) count) (eqb (segment_length_in s (first + i)) 0) (within 1 most_length (segment_length_in s (first + i)))

-- SPEC 3.8: the tangent modulus of segment i of a side: below E, and not above its predecessor's.
abbrev pub tangent_right : List ℕ → ℕ → ℕ → Bool
tangent_right s first i =
    ltb (segment_tangent_in s (first + i)) (modulus_in s) && (eqb i 0 || leb (segment_tangent_in s (first + i)) (segment_tangent_in s (first + i - 1)))

-- SPEC 3.9: a segment,
abbrev pub segment_in : List ℕ → ℕ → Segment
segment_in s i = record { length = length_of (segment_length_in s i); tangent = modulus (segment_tangent_in s i) }

-- and a point.
abbrev pub point_in : List ℕ → ℕ → Point
point_in s i = record { temperature = tenths (point_temperature_in s i); coefficient = expansion (point_coefficient_in s i) }

-- SPEC 3.9: things that stand one behind another: `count` of them from number `first` on,
unfoldable pub listed : {A : Type 0} → (ℕ → A) → (first count : ℕ) → List A
listed at first zero = []
listed at first (suc n) = listed at first n ++ (at (first + n) ∷ [])

-- and the same in an array of `most` places, those behind the last thing being empty.
unfoldable pub placed : {A : Type 0} → (most : ℕ) → (empty : A) → List A → List A
placed most empty l = l ++ replicate (most - length l) empty

-- SPEC 3.9: the segments of a side in their array; a place behind the last is flat and of no length.
abbrev pub segments_in : List ℕ → (first count : ℕ) → List Segment
segments_in s first count = placed most_segments flat (listed (segment_in s) first count)

-- SPEC 3.9: the points in their order.
abbrev pub points_in : List ℕ → List Point
points_in s = listed (point_in s) 0 (point_count s)

-- SPEC 3.9: so many points, each in its place.
abbrev pub points_by : (count : ℕ) → List Point → Points
points_by count points = record { count = count; places = placed most_points no_point points }

-- SPEC 3.9: what a sheet says of expansion: without a point the single number, else the points,
abbrev pub coefficients_by : (count single : ℕ) → List Point → Coefficients
coefficients_by zero single points = Single (expansion single)
coefficients_by (suc n) single points = AtPoints (points_by (suc n) points)

-- by its count of points.
abbrev pub coefficients_in : List ℕ → Coefficients
coefficients_in s = coefficients_by (point_count s) (expansion_in s) (points_in s)

-- SPEC 3.8: the fields of point i.
abbrev pub point_fields_right : List ℕ → ℕ → Bool
point_fields_right s i = point_right (point_in s i) && eqb (point_zero_bits s i) 0

-- SPEC 8.2: 1, by the length.
unfoldable pub length_wrong : List ℕ → Bool
length_wrong s = ltb (length s) header_length || not (eqb (length s) (counted_length s))

-- SPEC 8.2: 2, part by part: the counts; E, expansion and reference temperature; zero bits and yields; all of the header; the lengths of a
-- side; the points.
unfoldable pub sheet_counts_right : List ℕ → Bool
sheet_counts_right s =
    within 1 (most_tension (law_in s)) (tension_count s) && eqb (compression_count s) (compression_of (law_in s)) && within 0 most_points (point_count s)

unfoldable pub constants_right : List ℕ → (points : ℕ) → Bool
constants_right s points =
    within 1 most_modulus (modulus_in s) && expansion_right points (expansion_in s) && temperature_right (reference_in s)

unfoldable pub yields_right : List ℕ → Law → Bool
yields_right s law =
    eqb (header_zero_bits s) 0 && within 1 most_yield (tension_yield s) && compression_yield_right law (compression_yield s)

unfoldable pub header_right : List ℕ → Bool
unfolding sheet_counts_right constants_right yields_right
header_right s = sheet_counts_right s && constants_right s (point_count s) && yields_right s (law_in s)

unfoldable pub lengths_right : List ℕ → ℕ → ℕ → Bool
lengths_right s first count = all_below (length_right s first count) count

unfoldable pub points_right : List ℕ → Bool
points_right s = all_below (point_fields_right s) (point_count s)

-- SPEC 8.2: 3, on one side: each tangent modulus keeps its rule.
unfoldable pub tangents_right : List ℕ → ℕ → ℕ → Bool
tangents_right s first count = all_below (tangent_right s first) count

-- SPEC 3.8: a test of a side, by its first segment and its count, that holds on both sides.
abbrev pub both_sides : List ℕ → (ℕ → ℕ → Bool) → Bool
both_sides s test = test 0 (tension_count s) && test (tension_count s) (compression_count s)

-- SPEC 8.2: 2, 3 and 13 in their order,
unfoldable pub sheet_field_refusals : List ℕ → List Refusal
sheet_field_refusals s =
    refusal 2 (not (header_right s && both_sides s (lengths_right s) && points_right s))
    ∷ refusal 3 (not (both_sides s (tangents_right s)))
    ∷ refusal 13 (not (temperatures_rise (points_in s)))
    ∷ []

-- behind 1.
unfoldable pub sheet_refusals : List ℕ → List Refusal
unfolding sheet_field_refusals
sheet_refusals s = refusal 1 (length_wrong s) ∷ sheet_field_refusals s

-- SPEC 3.9: a side, its yield turned into grains, and its segments.
abbrev pub side_in : List ℕ → ℕ → ℕ → ℕ → Side
side_in s yield first count =
    record { yield_stress = magnitude (yield * grains); count = count; segments = segments_in s first count }

-- SPEC 3.9: what a sheet holds.
unfoldable pub sheet_of : List ℕ → Sheet
sheet_of s =
    record {
      law = law_in s;
      modulus = modulus (modulus_in s);
      expansion = coefficients_in s;
      reference = tenths (reference_in s);
      tension = side_in s (tension_yield s) 0 (tension_count s);
      compression = side_in s (compression_yield s) (tension_count s) (compression_count s);
    }
