-- The bytes of a sheet from its values (SPEC 3.18), what its author would send, cited by board; definitions only, nothing is assumed.
use Rattle.std.specs.Prelude.{ℕ, ◌/◌, List, [], ◌∷◌, ◌++◌, take}
use Rattle.ranges.specs.Ranges.{grains}
use Rattle.bits.specs.Layout.{bits_at, filled, packed, bytes_of}
use Rattle.law.specs.Laws.{number_of}
use Rattle.expansion.specs.declared.Point.{Point}
use Rattle.expansion.specs.Points.{points_of, count_of, single_of}
use Rattle.curve.specs.declared.Segment.{Segment}
use Rattle.curve.specs.declared.Side.{Side}
use Rattle.sheet.specs.declared.Sheet.{Sheet}
use Rattle.sheet.specs.SheetLayout.{header_layout, header_length, segment_layout, segment_length, point_layout, point_length}

-- SPEC 3.18: what stands in the header; the yields are divided by 10⁶.
abbrev pub header_values : Sheet → List ℕ
header_values h =
    number_of h.law
    ∷ h.tension.count
    ∷ h.compression.count
    ∷ h.modulus.0
    ∷ single_of h.expansion
    ∷ bits_at header_layout 5 h.reference.0
    ∷ h.tension.yield_stress.0 / grains
    ∷ h.compression.yield_stress.0 / grains
    ∷ 0
    ∷ count_of h.expansion
    ∷ []

-- SPEC 3.8: what stands in a segment.
abbrev pub segment_values : Segment → List ℕ
segment_values s = s.length.0 ∷ s.tangent.0 ∷ []

-- SPEC 3.8: what stands in a point.
abbrev pub point_values : Point → List ℕ
point_values p = bits_at point_layout 0 p.temperature.0 ∷ 0 ∷ p.coefficient.0 ∷ []

-- SPEC 3.18: the values of each thing of a list in bytes, one behind another, as segments and points stand.
unfoldable pub all_bytes : {A : Type 0} → (length : ℕ) → (layout : List ℕ) → (A → List ℕ) → List A → List ℕ
all_bytes length layout values [] = []
all_bytes length layout values (x ∷ rest) = bytes_of length (packed (filled layout (values x))) ++ all_bytes length layout values rest

-- SPEC 3.18: the segments of a side.
abbrev pub side_bytes : Side → List ℕ
side_bytes side = all_bytes segment_length segment_layout segment_values (take side.count side.segments)

-- SPEC 3.18: the header, the segments of tension, those of compression, the points.
unfoldable pub sheet_bytes : Sheet → List ℕ
sheet_bytes h =
    bytes_of header_length (packed (filled header_layout (header_values h))) ++ (side_bytes h.tension ++ side_bytes h.compression)
    ++ all_bytes point_length point_layout point_values (points_of h.expansion)
