-- What the parts of the sheet's reader answer (SPEC 8.8), by the definitions of `Sheets`, cited by this crate's contracts; definitions
-- only, nothing is assumed.
use Rattle.std.specs.Prelude.{ℕ, pos, ◌-◌, ◌*◌, ◌≡◌, ◌<◌, Bool, ◌&&◌, ◌||◌, cond, List, Result, Ok, Err, replicate, eqb, leb, ltb}
use Rattle.refusals.specs.declared.Reason.{Reason}
use Rattle.refusals.specs.declared.Reason.TheVariants.{SheetField}
use Rattle.ranges.specs.Ranges.{grains}
use Rattle.units.specs.Kinds.{tenths, magnitude, modulus, expansion}
use Rattle.law.specs.declared.Law.{Law}
use Rattle.law.specs.declared.Law.TheVariants.{Asymmetric}
use Rattle.sheet.specs.declared.Counts.{Counts}
use Rattle.sheet.specs.declared.Constants.{Constants}
use Rattle.sheet.specs.declared.Yields.{Yields}
use Rattle.sheet.specs.declared.Header.{Header}
use Rattle.expansion.specs.declared.Point.{Point}
use Rattle.expansion.specs.declared.Points.{Points}
use Rattle.expansion.specs.declared.Coefficients.{Coefficients}
use Rattle.expansion.specs.declared.Coefficients.TheVariants.{Single}
use Rattle.expansion.specs.Points.{most_points, no_point}
use Rattle.sheet.specs.declared.Sheet.{Sheet}
use Rattle.curve.specs.declared.Segment.{Segment}
use Rattle.curve.specs.declared.Side.{Side}
use Rattle.curve.specs.Sides.{most_segments, flat, tangent_of}
use Rattle.sheet.specs.Sheets.{law_in, tension_count, compression_count, point_count, sheet_counts_right, modulus_in, expansion_in, reference_in, tension_yield, compression_yield, constants_right, yields_right, header_right, all_below, both_sides, lengths_right, sheet_of, side_in, point_in, points_in, points_by, coefficients_in, point_fields_right, points_right}

-- SPEC 3.7, 3.9: what stands in the header: law and counts; E, expansion and reference temperature; yields in grains; and all of it.
abbrev pub counts_of : List ℕ → Counts
counts_of s = record { law = law_in s; tension = tension_count s; compression = compression_count s; points = point_count s }

abbrev pub constants_of : List ℕ → Constants
constants_of s = record { modulus = modulus (modulus_in s); expansion = expansion (expansion_in s); reference = tenths (reference_in s) }

abbrev pub yields_of : List ℕ → Yields
yields_of s = record { tension = magnitude (tension_yield s * grains); compression = magnitude (compression_yield s * grains) }

abbrev pub header_of : List ℕ → Header
header_of s = record { counts = counts_of s; constants = constants_of s; yields = yields_of s }

-- SPEC 8.8: what a part of the reader answers: what was read where it is right, else refusal 2,
abbrev pub right_or_field : {A : Type 0} → (right : Bool) → A → Result A Reason
right_or_field right read = cond right (Ok read) (Err SheetField)

-- SPEC 8.8: and a reader that answers so for each of `count` things, in any order.
abbrev pub ReadsEach : {A : Type 0} → (answer : ℕ → Result A Reason → Type 0) → (right : ℕ → Bool) → (thing : ℕ → A) → (count : ℕ) → Type 0
ReadsEach {A} answer right thing count = (i : ℕ) (r : Result A Reason) → i < count → answer i r → r ≡ right_or_field (right i) (thing i)

-- SPEC 8.8: a part that was lent a place reads what it leaves there, unless it refuses.
abbrev pub read_into : {A B : Type 0} → (left : A) → Result B Reason → Result A Reason
read_into left (Ok done) = Ok left
read_into left (Err reason) = Err reason

-- SPEC 3.9: the places of a side before a segment is read, those before a point is,
abbrev pub no_segments : List Segment
no_segments = replicate most_segments flat

abbrev pub no_points : List Point
no_points = replicate most_points no_point

-- a sheet with such sides,
abbrev pub Unread : Sheet → Type 0
Unread h = (h.tension.segments ≡ no_segments) × (h.compression.segments ≡ no_segments)

-- and the one that a material has before it is read: of law 3, with 0 or 1 in each field.
abbrev pub unread_side : Side
unread_side = record { yield_stress = magnitude grains; count = 1; segments = no_segments }

abbrev pub unread_sheet : Sheet
unread_sheet =
    record {
      law = Asymmetric;
      modulus = modulus 1;
      expansion = Single (expansion 0);
      reference = tenths (pos 0);
      tension = unread_side;
      compression = unread_side;
    }

-- SPEC 8.8: law and counts, right where SPEC 3.7 allows them; E, expansion and reference temperature; yields; and all of the header.
abbrev pub counts_in : List ℕ → Result Counts Reason
counts_in s = right_or_field (sheet_counts_right s) (counts_of s)

abbrev pub constants_in : List ℕ → (points : ℕ) → Result Constants Reason
constants_in s points = right_or_field (constants_right s points) (constants_of s)

abbrev pub yields_in : List ℕ → Law → Result Yields Reason
yields_in s law = right_or_field (yields_right s law) (yields_of s)

abbrev pub header_in : List ℕ → Result Header Reason
header_in s = right_or_field (header_right s) (header_of s)

-- SPEC 8.8: a side, right where the lengths of its segments are,
abbrev pub side_read : List ℕ → (yield first count : ℕ) → Result Side Reason
side_read s yield first count = right_or_field (lengths_right s first count) (side_in s yield first count)

-- a point, right where its fields are,
abbrev pub point_read : List ℕ → ℕ → Result Point Reason
point_read s i = right_or_field (point_fields_right s i) (point_in s i)

-- all points, right where those of each are,
abbrev pub points_read : List ℕ → Result Points Reason
points_read s = right_or_field (points_right s) (points_by (point_count s) (points_in s))

-- and what the sheet says of expansion, right where its points are.
abbrev pub coefficients_read : List ℕ → Result Coefficients Reason
coefficients_read s = right_or_field (points_right s) (coefficients_in s)

-- SPEC 3.8: the tangent modulus of segment i of a side that was read: below Young's modulus, and not above its predecessor's.
abbrev pub tangent_falls : Side → (modulus i : ℕ) → Bool
tangent_falls side modulus i = ltb (tangent_of side i) modulus && (eqb i 0 || leb (tangent_of side i) (tangent_of side (i - 1)))

-- and the same of each segment of the side.
abbrev pub side_falls : Side → (modulus : ℕ) → Bool
side_falls side modulus = all_below (tangent_falls side modulus) side.count

-- SPEC 8.8: the sheet, right where no field gets refusal 2.
abbrev pub values_in : List ℕ → Result Sheet Reason
values_in s = right_or_field (header_right s && both_sides s (lengths_right s) && points_right s) (sheet_of s)
