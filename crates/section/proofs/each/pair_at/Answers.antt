use Rattle.std.proofs.Common.{◌*◌, ◌≤◌, rules, arith, nat_abs, to_z, of_z, w64}
use mir.Facts.{to_z-of_z}
use Rattle.ranges.specs.Ranges.{most_change}
use Rattle.ranges.proofs.RangeMagnitudes.{around_magnitude}
use Rattle.section.proofs.MemberLaws.{bent_most}
use Rattle.section.proofs.each.pair_at.Goals as goal
use Rattle.section.proofs.each.pair_at.Goals.{Start}

most : (c : Start) → nat_abs c.args.change.curvature.0 * nat_abs (to_z w64 (of_z w64 c.args.member.offset)) ≤ 1000000000
most c =
    let offset = to_z-of_z {w = w64} {z = c.args.member.offset} (search rules) in
    rw offset (bent_most c.args.change c.args.member c.requires.0 c.requires.1)

pub strain_at-bent-requires : goal.strain_at-bent-requires
strain_at-bent-requires c = omega (arith, most (goal.at.strain_at-bent-requires c).Start)

pub plus-strain-requires : goal.plus-strain-requires
plus-strain-requires c =
    omega (arith, c.strain_at-bent.ensures.size, most (goal.at.plus-strain-requires c).Start, around_magnitude most_change c.args.change.mean.0 c.requires.0.mean)
