-- The traction curve T of one side (SPEC 4.1 to 4.8), cited by Sides, Tangent, flow, response and rod; definitions only, nothing is
-- assumed.
use Rattle.std.specs.Prelude.{ℕ, ◌+◌, ◌-◌, ◌*◌, ◌/◌, ◌≤◌, ◌<◌, min, ℤ, pos, negsuc}
use Rattle.std.proofs.Common.{mul-pos}
use Rattle.fractions.specs.Fraction.{Frac}

-- SPEC 4.1: the segments of a side in their order, each with a length in nano and a tangent modulus. The last one goes on without end.
pub data Segments : Type 0 where
  last : (tangent : ℕ) → Segments
  segment : (length tangent : ℕ) → Segments → Segments

-- SPEC 4.1: one side, its yield in grains and its segments.
pub record Curve : Type 0 where
  pub yield : ℕ
  pub segments : Segments

-- SPEC 3.8: every tangent modulus lies below E,
abbrev pub Below : ℕ → Segments → Type 0
Below E (last t) = t < E
Below E (segment length t rest) = (t < E) × Below E rest

-- and none above its predecessor's; `most` stands before the first one and is E.
abbrev pub Falling : ℕ → Segments → Type 0
Falling most (last t) = t ≤ most
Falling most (segment length t rest) = (t ≤ most) × Falling t rest

-- SPEC 4.4, the sum: E times the rise over the first x of abscissa from where the segments start. A segment takes w times its length of the
-- abscissa, w being E in the unit that x is counted in, and each unit of that adds t; what x has beyond it goes to the segments behind it.
unfoldable pub rise : (w : ℕ) → Segments → ℕ → ℕ
rise w (last t) x = t * x
rise w (segment length t rest) x = t * min x (w * length) + rise w rest (x - w * length)

-- SPEC 4.4: E times T at the abscissa a, y being the yield: E times the lesser of a and y, and the rise past y. So below the yield, where
-- the papers give T no meaning, T is the abscissa itself (SPEC 4.8): the elastic line, which makes T concave from 0 on.
unfoldable pub height : (E w y : ℕ) → Segments → ℕ → ℕ
height E w y segments a = E * min a y + rise w segments (a - y)

-- SPEC 4.4: T at a whole abscissa, rounded down.
unfoldable pub limit_at : (E : ℕ) → Curve → ℕ → ℕ
limit_at E c a = height E E c.yield c.segments a / E

-- SPEC 4.8: a negative abscissa counts as 0.
abbrev pub abscissa_of : ℤ → ℕ
abscissa_of (pos n) = n
abscissa_of (negsuc n) = 0

-- SPEC 4.4: T at a fraction, not rounded. In units of 1 / d, d the denominator, the yield is d y, and a segment takes d E for each nano.
unfoldable pub limit_f : (E : ℕ) → 0 < E → Curve → Frac → Frac
limit_f E some c x =
    record {
      num = pos (height E (x.den * E) (x.den * c.yield) c.segments (abscissa_of x.num));
      den = E * x.den;
      den_pos = mul-pos some x.den_pos;
    }
