-- A side of a sheet as a curve, and what reading it answers (SPEC 3.9, 4.1, 4.8, 4.10), cited by sheet, response, rod and accuracy;
-- definitions only, nothing is assumed.
use Rattle.std.specs.Prelude.{ℕ, ◌≤◌, ◌<◌, ◌^◌, List, [], ◌∷◌, take, get_or}
use Rattle.units.specs.Kinds.{length_of, magnitude, modulus}
use Rattle.units.specs.declared.Magnitude.{Magnitude}
use Rattle.units.specs.declared.Modulus.{Modulus}
use Rattle.curve.specs.declared.Segment.{Segment}
use Rattle.curve.specs.declared.Side.{Side}
use Rattle.curve.specs.declared.Reading.{Reading}
use Rattle.curve.specs.Curve.{Segments, last, segment, Curve, limit_at}
use Rattle.curve.specs.Tangent.{tangent_at}

-- SPEC 3.7, 3.9: the most segments that a side has, each in its place.
abbrev pub most_segments : ℕ
most_segments = 7

-- SPEC 4.1: a list of segments whose last one has no end, whatever its length says. SPEC 4.8: without a segment a side would be flat.
unfoldable pub segments_of : List Segment → Segments
segments_of [] = last 0
segments_of (s ∷ []) = last s.tangent.0
segments_of (s ∷ (next ∷ rest)) = segment s.length.0 s.tangent.0 (segments_of (next ∷ rest))

-- SPEC 3.9: the curve of a side: its yield, and the first `count` of its places.
unfoldable pub curve_of : Side → Curve
curve_of side = record { yield = side.yield_stress.0; segments = segments_of (take side.count side.segments) }

-- SPEC 4.10: what a side says at an abscissa, E being Young's modulus: T rounded down, and the tangent.
unfoldable pub reading_of : Side → Modulus → Magnitude → Reading
reading_of side e a =
    record { limit = magnitude (limit_at e.0 (curve_of side) a.0); tangent = modulus (tangent_at e.0 (curve_of side) a.0) }

-- SPEC 3.9: a place behind the last segment.
abbrev pub flat : Segment
flat = record { length = length_of 0; tangent = modulus 0 }

-- SPEC 3.9: length of segment i of a side,
abbrev pub length_at : Side → ℕ → ℕ
length_at side i = (get_or side.segments i flat).length.0

-- and its tangent modulus.
abbrev pub tangent_of : Side → ℕ → ℕ
tangent_of side i = (get_or side.segments i flat).tangent.0

-- SPEC 4.10: what reading a side in 64 bits asks of it.
pub record Readable (side : Side) (e : Modulus) : Type 0 where
  pub count_positive : 0 < side.count
  pub count_fits : side.count ≤ most_segments
  pub modulus_positive : 0 < e.0
  pub modulus_fits : e.0 ≤ 2 ^ 32
  pub tangents_fit : (i : ℕ) → i < side.count → tangent_of side i ≤ e.0
  pub lengths_fit : (i : ℕ) → i < side.count → length_at side i < 2 ^ 32
