-- The loop keeps `Reached`: what is carried is T at the start of the segment reached, less the yield (SPEC 4.11).
use Rattle.curve.proofs.Walk.{Reached}
use Rattle.curve.proofs.traction.TractionCurve.walk.Given as goal

abbrev pub invariant-loop-segment : goal.invariant-loop-segment
invariant-loop-segment l = Reached l.modulus l.fn.self.side.now l.fn.abscissa.0 l.rise.0 l.past.0 l.segment-index
