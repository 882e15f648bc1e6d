use Rattle.std.proofs.Common.{arith, ◌≡◌, sym, ap, ◌∙◌, true, false, not}
use Rattle.refusals.specs.Table.{passes, first_of}
use Rattle.ranges.specs.Ranges.{around, most_strain}
use Rattle.law.specs.declared.Law.{Law}
use Rattle.units.specs.declared.Nano.{Nano}
use Rattle.pair.proofs.PairLaws.{pair_facts}
use Rattle.response.specs.Response.{outcome_of, response_meaning}
use Rattle.rod.specs.Steps.{strain_after, outcome_after, strain_leaves, leaves_range, step_refusals, advance_by, advance_of}
use Rattle.rod.specs.Variables.{first_right, second_right}
use Rattle.rod.proofs.RangeFacts.{ranged}
use Rattle.rod.proofs.PairSolved.{stress_shows}
use Rattle.rod.proofs.StepLaws.{variables_right, same_law, stays}
use Rattle.rod.proofs.Rod.step.Goals as goal
use Rattle.rod.proofs.Rod.step.Goals.{After-strain_right, After-respond-response, After-leaves_range}

pub plus-strain-requires : goal.plus-strain-requires
plus-strain-requires c =
    omega (arith, (ranged c.args.self c.requires.accepted.0.in_range).strain, (pair_facts c.args.pair c.requires.accepted.1).0)

strain_is : (c : After-strain_right) → c.strain_right.result ≡ around most_strain (strain_after c.args.self c.args.pair)
strain_is c = c.strain_right.ensures ∙ ap (λ (n : Nano). around most_strain n.0) c.plus-strain.ensures.value

pub returns-then-not-strain_right : goal.returns-then-not-strain_right
unfolding first_of step_refusals strain_leaves
returns-then-not-strain_right c = rw (sym (strain_is (goal.at.returns-then-not-strain_right c).After-strain_right) ∙ c.if-not-strain_right.true)

-- Past the test of the strain.
strain_stays : (c : After-strain_right) → c.strain_right.result ≡ true → strain_leaves c.args.self c.args.pair ≡ false
unfolding strain_leaves
strain_stays c past = ap not (sym (strain_is c) ∙ past)

pub respond-response-requires : goal.respond-response-requires
respond-response-requires c =
    let rod = c.args.self in
    let sheet = c.args.material.now.sheet in
    let accepted = c.requires.accepted.0 in
    let facts = ranged rod accepted.in_range in
    let law = same_law sheet rod accepted.belongs in
    variables_right sheet.law rod.first.0 rod.second.0 (ap (λ (l : Law). first_right l rod.first.0) (sym law) ∙ facts.first) (ap (λ (l : Law). second_right l rod.second.0) (sym law) ∙ facts.second)

-- The law's answer is the outcome,
outcome_is : (c : After-respond-response) → response_meaning c.respond-response.result ≡ outcome_after c.args.material.now.sheet c.args.self c.args.pair
outcome_is c =
    let a = c.args in
    c.respond-response.ensures ∙ ap (outcome_of a.material.now.sheet a.self.first.0 a.self.second.0) (grind arith)

-- and the range test goes over it. Where nothing flowed, its stress may be taken from the trial.
leaves_is : (c : After-leaves_range) → response_meaning c.respond-response.result ≡ outcome_after c.args.material.now.sheet c.args.self c.args.pair
    → let o = outcome_after c.args.material.now.sheet c.args.self c.args.pair in c.leaves_range.result ≡ leaves_range c.args.self o.stress o.first o.second
leaves_is c outcome = grind (arith, stress_shows c.requires.accepted.0 c.args.pair)

pub returns-then-leaves_range : goal.returns-then-leaves_range
unfolding first_of step_refusals
returns-then-leaves_range c =
    let at = goal.at.returns-then-leaves_range c in
    rw (strain_stays at.After-strain_right c.if-not-strain_right.false, sym (leaves_is at.After-leaves_range (outcome_is at.After-respond-response)) ∙ c.if-leaves_range.true)

pub advance-requires : goal.advance-requires
advance-requires c =
    let kept = stays c.args.self _ _ _ (sym c.leaves_range.ensures ∙ c.if-leaves_range.false) in
    (kept.stress, kept.pairs)

pub returns : goal.returns
unfolding first_of step_refusals advance_of
returns c =
    let at = goal.at.returns c in
    let outcome = outcome_is at.After-respond-response in
    rw (strain_stays at.After-strain_right c.if-not-strain_right.false, sym (leaves_is at.After-leaves_range outcome) ∙ c.if-leaves_range.false)
    (ap passes (c.advance.ensures ∙ ap (advance_by c.args.material.now.sheet c.args.self c.args.pair) (grind (arith, stress_shows c.requires.accepted.0 c.args.pair))))
