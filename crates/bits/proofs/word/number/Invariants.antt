-- The loop keeps `x` the number of the bytes passed, which has 8 bits for each of them.
use Rattle.std.proofs.Common.{◌-◌, ◌≡◌, ◌*◌, ◌≤◌}
use Rattle.bits.specs.Field.{field}
use Rattle.bits.proofs.word.number.Given as goal

abbrev pub invariant-loop-i : goal.invariant-loop-i
invariant-loop-i l = (l.from ≤ l.i) × (l.i ≤ l.to) × (l.x ≡ field l.s (8 * l.from) (8 * (l.i - l.from)))

abbrev pub decreases-loop-i : goal.decreases-loop-i
decreases-loop-i l = l.to - l.i
