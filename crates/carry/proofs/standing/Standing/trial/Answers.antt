use Rattle.std.proofs.Common.{◌≡◌, sym, true}
use Rattle.ranges.specs.Ranges.{temperature_right}
use Rattle.pair.proofs.PairLaws.{pair_facts}
use Rattle.rod.proofs.RangeFacts.{ranged}
use Rattle.carry.proofs.ReachedLaws.{step_stands}
use Rattle.carry.proofs.standing.Standing.trial.Goals as goal

-- Both temperatures lie in their range.
pub thermal-requires : goal.thermal-requires
thermal-requires c =
    let reached = c.args.self.reached in
    let old : temperature_right reached.rod.temperature.0 ≡ true = (ranged reached.rod c.args.self.stands.accepted.in_range).temperature in
    let new : temperature_right c.args.pair.temperature.0 ≡ true = (pair_facts c.args.pair c.requires).1 in
    search (old, new)

pub invariant_of-to : goal.invariant_of-to
invariant_of-to c =
    record { stands = step_stands c.args.pair c.args.self.stands c.requires (sym c.in_ok-advance.ensures) c.after.ensures c.thermal.ensures.value }
