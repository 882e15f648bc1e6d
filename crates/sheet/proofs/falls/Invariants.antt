-- The loop keeps the tangent before, which is Young's modulus at first.
use Rattle.std.proofs.Common.{◌-◌, ◌≡◌, true, cond}
use lib.Dec.{eqb}
use Rattle.curve.specs.Sides.{tangent_of}
use Rattle.sheet.specs.Sheets.{all_below}
use Rattle.sheet.specs.ReaderAnswers.{tangent_falls}
use Rattle.sheet.proofs.falls.Given as goal

abbrev pub invariant-loop-segment : goal.invariant-loop-segment
invariant-loop-segment l =
    (all_below (tangent_falls l.fn.side l.fn.modulus.0) l.segment-index ≡ true)
    × (l.before.0 ≡ cond (eqb l.segment-index 0) l.fn.modulus.0 (tangent_of l.fn.side (l.segment-index - 1)))
