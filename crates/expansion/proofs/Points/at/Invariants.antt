-- The loop keeps `Reached`: the coefficient lies behind the point before.
use Rattle.expansion.proofs.PointsFrom.{Reached}
use Rattle.expansion.proofs.Points.at.Given as goal

abbrev pub invariant-loop-next : goal.invariant-loop-next
invariant-loop-next l = Reached l.self l.temperature.0 l.before l.next
