use Rattle.std.proofs.Common.{rules, arith, ◌≡◌, ◌∙◌, true, Result, Ok, sym, ap}
use Rattle.rod.proofs.RangeFacts.{ranged}
use Rattle.refusals.specs.Table.{passes}
use Rattle.refusals.specs.declared.Refused.{Refused}
use Rattle.rod.specs.declared.step.Advance.{Advance}
use Rattle.section.specs.declared.Member.{Member}
use Rattle.section.specs.declared.Movement.{Movement}
use Rattle.section.specs.declared.Sums.{Sums}
use Rattle.section.specs.Sections.{member_right, member_answer}
use Rattle.section.specs.Tallies.{added_to, sections_own, tally_of, tally_meaning}
use Rattle.section.proofs.each.tally.Goals as goal

-- Where sums are counted on by a member that passes.
counted_on : (x : Movement) (sums : Sums) (m : Member) {a : Advance} → member_right m ≡ true → member_answer x.material.now.sheet x.change m ≡ passes a
    → tally_of x (tally_meaning (Ok sums)) m ≡ added_to (tally_meaning (Ok sums)) m a.rod.stress.0
unfolding tally_of sections_own
counted_on x sums m right answer = rw (right, answer)

-- The tally is the sums that are counted on.
pub returns-in-Ok : goal.returns-in-Ok
returns-in-Ok c =
    let a = c.args in
    let x = a.movement.now in
    let sums : a.tally ≡ Ok c.in_ok-sums.sums = grind arith in
    c.added.ensures
    ∙ sym (counted_on x c.in_ok-sums.sums a.member (sym c.right.ensures ∙ c.if-not-right.false) (sym c.in-Ok.ensures))
    ∙ ap (λ (t : Result Sums Refused). tally_of x (tally_meaning t) a.member) (sym sums)

-- The stress of a rod that stands is in its range.
pub added-requires : goal.added-requires
added-requires c = (search rules, search rules, (ranged c.in-Ok.carried.to.reached.rod c.in-Ok.carried.to.stands.accepted.in_range).stress)
