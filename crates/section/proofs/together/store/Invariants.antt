-- The first members are moved, and the others as they were.
use Rattle.std.proofs.Common.{◌≡◌}
use Rattle.section.specs.Tallies.{next_of}
use Rattle.section.proofs.Stepwise.{map_to}
use Rattle.section.proofs.together.store.Given as goal

abbrev pub invariant-loop-member : goal.invariant-loop-member
invariant-loop-member l = l.members ≡ map_to (next_of l.movement) l.member-index l.initial.members
