use Rattle.std.proofs.Common.{sym, ap, subst}
use Rattle.state.specs.States.{StateFits}
use Rattle.carry.specs.declared.Reached.{Reached}
use Rattle.section.proofs.MemberLaws.{member_passed}
use Rattle.section.proofs.each.next.Goals as goal

-- The rod that is kept is the one that the trial came to, and its state fits.
pub with_state-requires : goal.with_state-requires
with_state-requires c =
    let x = c.args.movement.now in
    subst StateFits (sym (ap (λ (r : Reached). r.rod) c.keep.ensures.reached)) (member_passed x.material.now.sheet x.change c.args.member x.material.now.sound (sym c.in-Ok.ensures)).next.fits
