-- What reading carries along the curve (SPEC 4.11), cited by the invariant of `TractionCurve::walk`; definitions only, nothing is assumed.
use Rattle.std.specs.Prelude.{ℕ, ◌<◌, pos, get_or}
use Rattle.fractions.specs.Fraction.{whole, ◌≈F◌, ◌-F◌}
use Rattle.curve.specs.Curve.{Curve, limit_f}
use Rattle.curve.specs.Tangent.{Span, nowhere, spans}

-- SPEC 4.2: behind the last segment there is none. This stands for one there, so that every i has a span: flat, at the yield.
abbrev pub behind_last : Curve → Span
behind_last c = record { start = c.yield; end = nowhere; tangent = 0 }

-- SPEC 4.2: segment i of a curve on the axis of abscissas, counted from 0, where SPEC counts from 1.
abbrev pub span_at : (E : ℕ) → Curve → ℕ → Span
span_at E c i = get_or (spans E c.yield c.segments) i (behind_last c)

-- SPEC 4.11: `rise` is what is to be carried where segment i is reached: T at its start less the yield, T being the fraction.
abbrev pub Carries : (E : ℕ) → 0 < E → Curve → (i rise : ℕ) → Type 0
Carries E some c i rise = (limit_f E some c (whole (pos (span_at E c i).start)) -F whole (pos c.yield)) ≈F whole (pos rise)
