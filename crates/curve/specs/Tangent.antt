-- Which segment holds an abscissa, and its tangent modulus (SPEC 4.2, 4.6), cited by Sides, response and rod; definitions only, nothing is
-- assumed.
use Rattle.std.specs.Prelude.{ℕ, ◌+◌, ◌*◌, Bool, true, ◌&&◌, cond, List, [], ◌∷◌, leb, ltb}
use Rattle.curve.specs.Curve.{Segments, last, segment, Curve}

-- SPEC 4.2: where a segment ends on the axis of abscissas; the last one nowhere.
pub data End : Type 0 where
  at : ℕ → End
  nowhere : End

-- SPEC 4.2: the span of a segment on that axis.
pub record Span : Type 0 where
  pub start : ℕ
  pub end : End
  pub tangent : ℕ

-- SPEC 4.2: the spans of a side's segments, the first at `start`. Each takes E times its length, and the next starts where it ends.
unfoldable pub spans : (E start : ℕ) → Segments → List Span
spans E start (last t) = record { start = start; end = nowhere; tangent = t } ∷ []
spans E start (segment length t rest) =
    record { start = start; end = at (start + E * length); tangent = t } ∷ spans E (start + E * length) rest

-- SPEC 4.2: an abscissa lies before an end,
abbrev pub before : ℕ → End → Bool
before a (at end) = ltb a end
before a nowhere = true

-- and a segment holds it from its start on, its end left out.
abbrev pub holds : Span → ℕ → Bool
holds p a = leb p.start a && before a p.end

-- SPEC 4.6: the tangent of the segment that holds the abscissa. Where none does, below the yield, it is E (SPEC 4.8),
unfoldable pub tangent_in : (E : ℕ) → List Span → ℕ → ℕ
tangent_in E [] a = E
tangent_in E (p ∷ rest) a = cond (holds p a) p.tangent (tangent_in E rest a)

-- and that over the segments of a curve, the first of which starts at the yield.
unfoldable pub tangent_at : (E : ℕ) → Curve → ℕ → ℕ
tangent_at E c a = tangent_in E (spans E c.yield c.segments) a
