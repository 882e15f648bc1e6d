use Rattle.std.proofs.Common.{arith}
use Rattle.rod.proofs.RangeFacts.{ranged, centre_magnitude}
use Rattle.rod.proofs.against.kinematic.Goals as goal

pub minus-requires : goal.minus-requires
minus-requires c =
    let rod = c.args.rod in
    let facts = ranged rod c.requires.rod_value in
    omega (arith, facts.stress, centre_magnitude rod.law rod.first.0 facts.first c.requires.centre)
