use Rattle.std.proofs.Common.{◌≡◌, ℕ, List, false, sym, ap, ◌∙◌}
use Rattle.std.proofs.lemmas.Result.{err_from_is_err_and}
use Rattle.refusals.specs.Table.{passes, first_of}
use Rattle.refusals.proofs.FirstLaws.{passes_given}
use Rattle.sheet.specs.declared.Sheet.{Sheet}
use Rattle.pair.specs.Pairs.{pair_in_range}
use Rattle.state.specs.States.{state_of}
use Rattle.rod.specs.Steps.{advance_of, step_refusals}
use Rattle.judge.specs.Standing.{Ready, holder_refusals}
use Rattle.judge.proofs.JudgeLaws.{same_sheet}
use Rattle.section.specs.Sections.{member_pair}
use Rattle.section.proofs.MemberLaws.{state_stops, pair_stops, step_decides}
use Rattle.section.proofs.each.tried.Goals as goal

-- The rod that passes is the one that the state holds.
same_rod : (h : Sheet) (s : List ℕ) {x : Ready} → passes x ≡ first_of {A = Ready} (holder_refusals h s) (record { sheet = h; rod = state_of s })
    → state_of s ≡ x.rod
same_rod h s e = ap (λ (x : Ready). x.rod) (passes_given _ _ (sym e))

pub returns-in_err-standing : goal.returns-in_err-standing
returns-in_err-standing c =
    let a = c.args in
    let p = err_from_is_err_and c.from_residual.result c.from_residual.ensures.1 in
    rw (p.1, p.2) (sym (state_stops a.movement.now.material.now.sheet a.movement.now.change a.member _ (sym c.in_err-standing.ensures)))

pub returns-then-not-in_range : goal.returns-then-not-in_range
returns-then-not-in_range c =
    let a = c.args in
    let out : pair_in_range (member_pair a.movement.now.change a.member) ≡ false =
    ap pair_in_range (sym c.pair_at-pair.ensures) ∙ sym c.in_range.ensures ∙ c.if-not-in_range.true in
    sym (pair_stops a.movement.now.material.now.sheet a.movement.now.change a.member _ (sym c.in_ok-standing.ensures) out)

-- What trying the pair answers is the member's answer
pub returns : goal.returns
returns c =
    let a = c.args in
    let h = a.movement.now.material.now.sheet in
    let same = same_rod h a.member.state c.in_ok-standing.ensures in
    let sheet = same_sheet h a.member.state c.in_ok-standing.ensures in
    let is = c.pair_at-pair.ensures in
    let right = ap pair_in_range (sym is) ∙ sym c.in_range.ensures ∙ c.if-not-in_range.false in
    c.trial.ensures.told
    ∙ (λ i. first_of (step_refusals (sym sheet i) (sym same i) (is i)) (advance_of (sym sheet i) (sym same i) (is i)))
    ∙ sym (step_decides h a.movement.now.change a.member _ (sym c.in_ok-standing.ensures) right)
