-- The points of a sheet's expansion (SPEC 3.9), and 13 over them (SPEC 8.2), cited by Coefficient and sheet; definitions only, nothing is
-- assumed.
use Rattle.std.specs.Prelude.{ℕ, ◌≤◌, ◌<◌, ◌≡◌, Bool, true, ◌&&◌, List, [], ◌∷◌, length, take, get_or, leb, pos}
use Rattle.std.specs.Int.Signed.{lt_z}
use Rattle.ranges.specs.Ranges.{temperature_right, most_expansion}
use Rattle.units.specs.Kinds.{tenths, expansion}
use Rattle.expansion.specs.declared.Point.{Point}
use Rattle.expansion.specs.declared.Points.{Points}
use Rattle.expansion.specs.declared.Coefficients.{Coefficients}
use Rattle.expansion.specs.declared.Coefficients.TheVariants.{Single, AtPoints}

-- SPEC 3.7, 3.9: the most points that a sheet has, each in its place.
abbrev pub most_points : ℕ
most_points = 8

-- SPEC 3.9: a place behind the last point: its temperature is one that no temperature in range reaches.
abbrev pub no_point : Point
no_point = record { temperature = tenths (pos 20001); coefficient = expansion 0 }

-- SPEC 3.9: what stands for a place that the array hasn't; nothing reads there.
abbrev pub no_place : Point
no_place = record { temperature = tenths (pos 0); coefficient = expansion 0 }

-- SPEC 3.9: the points that stand in their places: the first `count` of these.
abbrev pub standing : Points → List Point
standing p = take p.count p.places

-- SPEC 3.9: the points of a sheet, none beside a single number,
abbrev pub points_of : Coefficients → List Point
points_of (Single a) = []
points_of (AtPoints p) = standing p

-- how many there are,
abbrev pub count_of : Coefficients → ℕ
count_of (Single a) = 0
count_of (AtPoints p) = p.count

-- the places that they stand in,
abbrev pub places_of : Coefficients → List Point
places_of (Single a) = []
places_of (AtPoints p) = p.places

-- and the single number, which is 0 beside points.
abbrev pub single_of : Coefficients → ℕ
single_of (Single a) = a.0
single_of (AtPoints p) = 0

-- SPEC 3.8: the ranges of a point.
abbrev pub point_right : Point → Bool
point_right p = temperature_right p.temperature.0 && leb p.coefficient.0 most_expansion

-- SPEC 8.2: the temperatures rise strictly from a point on,
unfoldable pub rises_from : Point → List Point → Bool
rises_from p [] = true
rises_from p (q ∷ rest) = lt_z p.temperature.0 q.temperature.0 && rises_from q rest

-- and from the first on.
unfoldable pub temperatures_rise : List Point → Bool
temperatures_rise [] = true
temperatures_rise (p ∷ rest) = rises_from p rest

-- SPEC 3.10: what the points of a sheet that passes have, and a coefficient is found by,
pub record PointsUsable (p : Points) : Type 0 where
  pub some : 0 < p.count
  pub count_fits : p.count ≤ most_points
  pub places : length p.places ≡ most_points
  pub points_right : (i : ℕ) → i < p.count → point_right (get_or p.places i no_place) ≡ true
  pub empty_behind : (i : ℕ) → p.count ≤ i → i < most_points → get_or p.places i no_place ≡ no_point
  pub rising : temperatures_rise (standing p) ≡ true

-- and the same of what the sheet says, the single number being in its range.
pub record Usable (c : Coefficients) : Type 0 where
  pub single_most : single_of c ≤ most_expansion
  pub points : (p : Points) → c ≡ AtPoints p → PointsUsable p
