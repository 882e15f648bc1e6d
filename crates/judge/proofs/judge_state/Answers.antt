use Rattle.std.proofs.Common.{◌≡◌, true, false, sym, ap, ◌∙◌}
use Rattle.std.proofs.lemmas.Result.{err_from_is_err_and}
use Rattle.refusals.specs.Table.{passes}
use Rattle.refusals.proofs.FirstLaws.{stops_first}
use Rattle.rod.specs.declared.Rod.{Rod}
use Rattle.state.specs.States.{state_refusals, state_of}
use Rattle.rod.specs.Against.{against_refusals}
use Rattle.rod.proofs.RangeFacts.{ranged}
use Rattle.state.proofs.RoundTrip.{accepted_passed}
use Rattle.carry.specs.declared.Reached.{Reached}
use Rattle.judge.proofs.JudgeLaws.{state_settles, read_stands}
use Rattle.judge.proofs.judge_state.Goals as goal

-- 4 or 5.
pub returns-in_err-rod : goal.returns-in_err-rod
returns-in_err-rod c =
    let a = c.args in
    let stops = stops_first (state_refusals a.state.now) (against_refusals a.material.now.sheet (state_of a.state.now)) (state_of a.state.now) (record { sheet = a.material.now.sheet; rod = state_of a.state.now }) _ (sym c.in_err-rod.ensures) in
    let exit = err_from_is_err_and c.from_residual.result c.from_residual.ensures.1 in
    rw (exit.1, exit.2) (sym stops)

pub of-reached-requires : goal.of-reached-requires
of-reached-requires c =
    let rod = c.in_ok-rod.rod in
    (ranged rod (accepted_passed c.args.state.now rod (sym c.in_ok-rod.ensures)).ranges).temperature

pub belongs-requires-clause-in_range : goal.belongs-requires-clause-in_range
belongs-requires-clause-in_range c =
    (accepted_passed c.args.state.now c.in_ok-rod.rod (sym c.in_ok-rod.ensures)).ranges

pub returns-then-not-belongs : goal.returns-then-not-belongs
returns-then-not-belongs c =
    let a = c.args in
    sym (state_settles a.material.now.sheet a.state.now _ false (sym c.in_ok-rod.ensures) (sym c.belongs.ensures ∙ c.if-not-belongs.true))

pub returns : goal.returns
returns c =
    let a = c.args in
    let rod = c.in_ok-rod.rod in
    let passed = sym c.in_ok-rod.ensures in
    let belongs = sym c.belongs.ensures ∙ c.if-not-belongs.false in
    let same : c.of-reached.result.rod ≡ rod = ap (λ (x : Reached). x.rod) c.of-reached.ensures in
    ap (λ (r : Rod). passes (record { sheet = a.material.now.sheet; rod = r })) (same ∙ sym (accepted_passed a.state.now rod passed).rod)
    ∙ sym (state_settles a.material.now.sheet a.state.now _ true passed belongs)

pub invariant_of-result : goal.invariant_of-result
invariant_of-result c = record {
  stands =
      read_stands c.args.material.now.sheet c.args.state.now c.args.material.now.sound (sym c.in_ok-rod.ensures) (sym c.belongs.ensures ∙ c.if-not-belongs.false) c.of-reached.ensures;
}
