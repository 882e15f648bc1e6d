use Rattle.std.proofs.Common.{arith, ◌+◌, ◌*◌, ◌≤◌, ap, ◌∙◌, pos, nat_abs, ◌+ℤ◌, ◌-ℤ◌, ◌*ℤ◌}
use Rattle.std.proofs.Math.Nat.{mul-le-mul}
use Rattle.units.specs.Kinds.{grain}
use Rattle.units.specs.declared.Grain.{Grain}
use Rattle.units.specs.declared.Nano.{Nano}
use Rattle.pair.proofs.PairLaws.{pair_facts}
use Rattle.rod.specs.declared.step.ThermalStrains.{ThermalStrains}
use Rattle.rod.specs.Steps.{trial_of}
use Rattle.rod.proofs.RangeFacts.{ranged}
use Rattle.rod.proofs.ThermalFacts.{thermals_most}
use Rattle.rod.proofs.step.Step.trial_stress.Goals as goal
use Rattle.rod.proofs.step.Step.trial_stress.Goals.{After-minus-thermal, After-minus-elastic, After-times}

pub minus-thermal-requires : goal.minus-thermal-requires
minus-thermal-requires c =
    omega (arith, thermals_most c.args.self.material.now.sheet c.args.self.rod c.args.self.pair c.args.self.accepted c.args.self.pair_accepted c.args.self.thermals_own)

few_nano : (c : After-minus-thermal) → nat_abs c.args.self.pair.change.0 + nat_abs c.minus-thermal.result.0 ≤ 1000000000
few_nano c =
    omega (arith, (pair_facts c.args.self.pair c.args.self.pair_accepted).0, c.minus-thermal.ensures.most, thermals_most c.args.self.material.now.sheet c.args.self.rod c.args.self.pair c.args.self.accepted c.args.self.pair_accepted c.args.self.thermals_own)

pub minus-elastic-requires : goal.minus-elastic-requires
minus-elastic-requires c = omega (arith, few_nano (goal.at.minus-elastic-requires c).After-minus-thermal)

-- What Young's modulus makes of the elastic change.
elastic_stress : (c : After-minus-elastic) → nat_abs c.args.self.pair.change.0 + nat_abs c.minus-thermal.result.0 ≤ 1000000000
    → c.args.self.material.now.sheet.modulus.0 * nat_abs c.minus-elastic.result.0 ≤ 400000 * 1000000000
elastic_stress c most =
    let few : nat_abs c.minus-elastic.result.0 ≤ 1000000000 = omega (arith, c.minus-elastic.ensures.most, most) in
    mul-le-mul {n₁ = c.args.self.material.now.sheet.modulus.0} {m₁ = nat_abs c.minus-elastic.result.0} {n₂ = 400000} {m₂ = 1000000000} c.args.self.accepted.sound.modulus_most few

pub times-requires : goal.times-requires
times-requires c =
    let at = goal.at.times-requires c in
    (omega (arith, c.args.self.accepted.sound.modulus_most), omega (arith, elastic_stress at.After-minus-elastic (few_nano at.After-minus-thermal)))

pub plus-requires : goal.plus-requires
plus-requires c =
    let at = goal.at.plus-requires c in
    omega (arith, (ranged c.args.self.rod c.args.self.accepted.in_range).stress, c.times.ensures.size, elastic_stress at.After-minus-elastic (few_nano at.After-minus-thermal))

pub returns : goal.returns
unfolding trial_of
returns c =
    let a = c.args.self in
    let e = pos a.material.now.sheet.modulus.0 in
    let s = a.rod.stress.0 in
    c.plus.ensures.value ∙ ap (λ (g : Grain). grain (s +ℤ g.0)) c.times.ensures.value
    ∙ ap (λ (n : Nano). grain (s +ℤ e *ℤ n.0)) c.minus-elastic.ensures.value
    ∙ ap (λ (n : Nano). grain (s +ℤ e *ℤ (a.pair.change.0 -ℤ n.0))) c.minus-thermal.ensures.value
    ∙ ap (λ (w : ThermalStrains). grain (s +ℤ e *ℤ (a.pair.change.0 -ℤ (w.after.0 -ℤ w.before.0)))) c.args.self.thermals_own

pub invariant_of-result : goal.invariant_of-result
invariant_of-result c =
    let at = goal.at.invariant_of-result c in
    omega (arith, c.plus.ensures.most, (ranged c.args.self.rod c.args.self.accepted.in_range).stress, c.times.ensures.size, elastic_stress at.After-minus-elastic (few_nano at.After-minus-thermal))
