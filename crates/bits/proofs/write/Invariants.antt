-- The loop goes from the last byte to the first. What is still to be put, put into what the part holds by then, is the whole.
use Rattle.std.proofs.Common.{◌≡◌}
use Rattle.bits.specs.Layout.{bytes_of, put}
use Rattle.bits.proofs.write.Given as goal

abbrev pub invariant-loop-i : goal.invariant-loop-i
invariant-loop-i g l = put l.part 0 (bytes_of l.i l.rest) ≡ bytes_of l.count l.initial.rest
