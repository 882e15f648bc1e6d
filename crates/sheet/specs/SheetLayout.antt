-- Where everything stands in a sheet's bytes (SPEC 3.7, 3.8), cited by Sheets, Bytes and rod_log; definitions only, nothing is assumed.
use Rattle.std.specs.Prelude.{ℕ, ◌+◌, ◌*◌, List, [], ◌∷◌}

-- SPEC 3.7: the widths of the header's fields: law, tension segments, compression segments, E, expansion, reference temperature, tension
-- yield, compression yield, zero, points,
abbrev pub header_layout : List ℕ
header_layout = 2 ∷ 3 ∷ 3 ∷ 20 ∷ 14 ∷ 16 ∷ 24 ∷ 24 ∷ 2 ∷ 4 ∷ []

-- and the bytes that they take.
abbrev pub header_length : ℕ
header_length = 14

-- SPEC 3.8: the widths of a segment's fields: length, tangent modulus,
abbrev pub segment_layout : List ℕ
segment_layout = 28 ∷ 20 ∷ []

-- and the bytes that they take.
abbrev pub segment_length : ℕ
segment_length = 6

-- SPEC 3.8: the widths of a point's fields: temperature, zero, coefficient,
abbrev pub point_layout : List ℕ
point_layout = 16 ∷ 2 ∷ 14 ∷ []

-- and the bytes that they take.
abbrev pub point_length : ℕ
point_length = 4

-- SPEC 3.8: the bytes of a sheet with so many segments and points.
abbrev pub sheet_length : (segments points : ℕ) → ℕ
sheet_length segments points = header_length + segment_length * segments + point_length * points

-- SPEC 3.8: the bit where segment i begins: behind the header and the segments before it,
abbrev pub segment_at : ℕ → ℕ
segment_at i = 8 * (header_length + segment_length * i)

-- and where point i begins: behind the header, all segments and the points before it.
abbrev pub point_at : (segments i : ℕ) → ℕ
point_at segments i = 8 * sheet_length segments i

-- SPEC 3.7: no sheet counts more segments, right or wrong, since each count has three bits,
abbrev pub most_counted : ℕ
most_counted = 7 + 7

-- nor more points, whose count has four,
abbrev pub most_points_counted : ℕ
most_points_counted = 15

-- and none is longer.
abbrev pub longest_sheet : ℕ
longest_sheet = sheet_length most_counted most_points_counted
