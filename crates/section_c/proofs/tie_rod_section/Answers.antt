use Rattle.std.proofs.Common.{arith, sym, subst}
use Rattle.section.proofs.SectionBounds.{Small, section_bounds}
use Rattle.section_c.proofs.tie_rod_section.Goals as goal

pub in_one_number-requires : goal.in_one_number-requires
in_one_number-requires c =
    let small = subst Small (sym c.in-Err.ensures) (section_bounds c.args.sheet.now _ c.args.members.now) in omega (arith, small.1)
