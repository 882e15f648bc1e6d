-- The coefficient of expansion at a temperature (SPEC 5.7), cited by sheet; definitions only, nothing is assumed.
use Rattle.std.specs.Prelude.{ℕ, ◌≡◌, cond, List, [], ◌∷◌, ◌++◌, ℤ, pos, nat_abs, ◌-ℤ◌, ◌*ℤ◌, ◌≤ℤ◌}
use Rattle.std.specs.Int.Signed.{le_z}
use Rattle.fractions.specs.Fraction.{Frac, whole, ratio, ◌+F◌}
use Rattle.fractions.specs.Rounding.{Floor, floor_f}
use Rattle.expansion.specs.declared.Point.{Point}
use Rattle.expansion.specs.declared.Coefficients.{Coefficients}
use Rattle.expansion.specs.Points.{points_of, single_of}

-- SPEC 5.7: the straight line through two points, at a temperature: the first coefficient, and of the difference to the second the part
-- that lies before the temperature. It is a fraction, not rounded.
unfoldable pub line : Point → Point → ℤ → Frac
line p q t =
    whole (pos p.coefficient.0)
    +F ratio ((pos q.coefficient.0 -ℤ pos p.coefficient.0) *ℤ (t -ℤ p.temperature.0)) (nat_abs (q.temperature.0 -ℤ p.temperature.0))

-- SPEC 5.7: behind a point that the temperature has reached: past the last one its coefficient, before the next one the line, rounded down,
unfoldable pub behind : Point → List Point → ℤ → ℤ
behind p [] t = pos p.coefficient.0
behind p (q ∷ rest) t = cond (le_z q.temperature.0 t) (behind q rest t) (floor_f (line p q t))

-- SPEC 5.7: and over all points: without one the single number, up to the first its coefficient.
unfoldable pub coefficient_in : (single : ℕ) → List Point → ℤ → ℤ
coefficient_in single [] t = pos single
coefficient_in single (p ∷ rest) t = cond (le_z t p.temperature.0) (pos p.coefficient.0) (behind p rest t)

-- SPEC 5.7: the coefficient of a sheet at a temperature.
abbrev pub coefficient_of : Coefficients → ℤ → ℤ
coefficient_of c t = coefficient_in (single_of c) (points_of c) t

-- SPEC 5.7: what document 02 says of the coefficient `a` at the temperature t, whatever way it was found: without points the single number;
-- up to the first point and from the last one on the end's own; between two neighbours the line through them, rounded down.
pub record Interpolates (single : ℕ) (points : List Point) (t a : ℤ) : Type 0 where
  pub none : points ≡ [] → a ≡ pos single
  pub first : (p : Point) (rest : List Point) → points ≡ p ∷ rest → t ≤ℤ p.temperature.0 → a ≡ pos p.coefficient.0
  pub last : (front : List Point) (p : Point) → points ≡ front ++ (p ∷ []) → p.temperature.0 ≤ℤ t → a ≡ pos p.coefficient.0
  pub between : (front : List Point) (p q : Point) (rest : List Point) → points ≡ front ++ (p ∷ (q ∷ rest))
      → p.temperature.0 ≤ℤ t → t ≤ℤ q.temperature.0 → Floor (line p q t) a
