use Rattle.std.proofs.Common.{arith, ◌*◌, ◌≤◌, nat_abs}
use borrow.Author.Tests.{leb-true}
use Rattle.std.proofs.Math.Nat.{mul-le-mul}
use lib.Dec.{leb}
use Rattle.refusals.proofs.FirstLaws.{both_hold}
use Rattle.bits.proofs.SignLaws.{flag_below}
use Rattle.pair.proofs.PairLaws.{pair_facts}
use Rattle.rod.proofs.RangeFacts.{ranged}
use Rattle.rod.proofs.ThermalFacts.{thermals_most}
use Rattle.rod.proofs.step.Step.advance.Goals as goal
use Rattle.rod.proofs.step.Step.advance.Goals.{After-plus-strain, After-minus-mechanical}

pub plus-strain-requires : goal.plus-strain-requires
plus-strain-requires c =
    omega (arith, (ranged c.args.self.rod c.args.self.accepted.in_range).strain, (pair_facts c.args.self.pair c.args.self.pair_accepted).0)

-- The strain and the thermal strains.
few_nano : (c : After-plus-strain) → let w = c.args.self.thermals in
    (nat_abs c.plus-strain.result.0 ≤ 500000000) × (nat_abs w.before.0 ≤ 400000000) × (nat_abs w.after.0 ≤ 400000000)
few_nano c =
    let x = c.args.self in
    let thermals = thermals_most x.material.now.sheet x.rod x.pair x.accepted x.pair_accepted x.thermals_own in
    (omega (arith, c.plus-strain.ensures.most, (ranged x.rod x.accepted.in_range).strain, (pair_facts x.pair x.pair_accepted).0), thermals.0, thermals.1)

pub minus-mechanical-requires : goal.minus-mechanical-requires
minus-mechanical-requires c = omega (arith, few_nano (goal.at.minus-mechanical-requires c).After-plus-strain)

mechanical_stress : (c : After-minus-mechanical) → nat_abs c.minus-mechanical.result.0 ≤ 1000000000
    → c.args.self.material.now.sheet.modulus.0 * nat_abs c.minus-mechanical.result.0 ≤ 400000 * 1000000000
mechanical_stress c few =
    mul-le-mul {n₁ = c.args.self.material.now.sheet.modulus.0} {m₁ = nat_abs c.minus-mechanical.result.0} {n₂ = 400000} {m₂ = 1000000000} c.args.self.accepted.sound.modulus_most few

pub times-requires : goal.times-requires
times-requires c =
    let at = goal.at.times-requires c in
    let few : nat_abs c.minus-mechanical.result.0 ≤ 1000000000 = omega (arith, c.minus-mechanical.ensures.most, few_nano at.After-plus-strain) in
    (omega (arith, c.args.self.accepted.sound.modulus_most), omega (arith, mechanical_stress at.After-minus-mechanical few))

pub minus-plastic-requires : goal.minus-plastic-requires
minus-plastic-requires c =
    let at = goal.at.minus-plastic-requires c in
    let few : nat_abs c.minus-mechanical.result.0 ≤ 1000000000 = omega (arith, c.minus-mechanical.ensures.most, few_nano at.After-plus-strain) in
    omega (arith, c.times.ensures.size, mechanical_stress at.After-minus-mechanical few, c.requires.0)

pub overflow_add-next-2 : goal.overflow_add-next-2
overflow_add-next-2 c =
    let rod = c.args.self.rod in
    let counts = (ranged rod c.args.self.accepted.in_range).counts in
    let fewer = leb-true rod.yielded_pairs rod.pairs (both_hold (leb rod.yielded_pairs rod.pairs) _ counts).0 in
    record { fits = omega (arith, fewer, c.from.ensures, flag_below c.yielded-yielded.result, c.requires.1) }
