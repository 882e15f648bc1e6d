-- The tally is that of the members looked at.
use Rattle.std.proofs.Common.{◌≡◌}
use Rattle.section.specs.Tallies.{bare_tally, tally_meaning}
use Rattle.section.proofs.Tallying.{tally_to}
use Rattle.section.proofs.together.decide.Given as goal

abbrev pub invariant-loop-member : goal.invariant-loop-member
invariant-loop-member l = tally_meaning l.tally ≡ tally_to l.movement l.member-index (bare_tally 0 0) l.members
