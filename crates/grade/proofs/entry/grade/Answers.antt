use Rattle.std.proofs.Common.{ℤ, ◌≤◌, ◌≡◌, List, ℕ, length, sym, ap, subst, ◌∙◌}
use Rattle.std.proofs.lemmas.Result.{err_from_is_err_and}
use mir.Facts.{to_z-of_z}
use Rattle.refusals.specs.Table.{passes, first_of}
use Rattle.refusals.specs.Reasons.{answer_by}
use Rattle.ranges.specs.Ranges.{most_pairs}
use Rattle.pair.specs.Pairs.{list_refusals}
use Rattle.carry.specs.Walk.{walk}
use Rattle.tie_rod.specs.Calls.{run, count_in, pairs_in}
use Rattle.tie_rod.proofs.CallLaws.{list_counts}
use Rattle.grade.specs.Grades.{grading, grading_refusals, Verdict}
use Rattle.grade.specs.Comparing.{compared_of, settled_by}
use Rattle.grade.proofs.GradeLaws.{standing_stops, list_stops, list_walked, settled_by_is}
use Rattle.grade.proofs.entry.grade.Goals as goal

-- A list that passes has not too many pairs.
few : (pairs : List ℕ) {n : ℕ} → first_of (list_refusals (length pairs)) (count_in pairs) ≡ passes n → count_in pairs ≤ most_pairs
few pairs listed = let counted = list_counts run (length pairs) listed in subst (λ (n : ℕ). n ≤ most_pairs) counted.0 counted.1

pub returns-in_err-standing-clause-result_value : goal.returns-in_err-standing-clause-result_value
returns-in_err-standing-clause-result_value c =
    let a = c.args in
    let stops = standing_stops a.sheet.now a.state.now (grading a.pairs.now a.rows.now a.tolerance) (sym c.in_err-standing.ensures) in
    let exit = err_from_is_err_and c.from_residual.result c.from_residual.ensures.1 in
    rw (exit.1, exit.2) (sym stops)

pub returns-in_err-count-clause-result_value : goal.returns-in_err-count-clause-result_value
returns-in_err-count-clause-result_value c =
    let a = c.args in
    let stops = list_stops a.sheet.now a.state.now (grading a.pairs.now a.rows.now a.tolerance) (sym c.in_ok-standing.ensures) (sym c.in_err-count.ensures) in
    let exit = err_from_is_err_and c.from_residual-in_err-count.result c.from_residual-in_err-count.ensures.1 in
    rw (exit.1, exit.2) (sym stops)

pub invariant_of-table : goal.invariant_of-table
invariant_of-table c = record { few = few c.args.pairs.now (sym c.in_ok-count.ensures) }

pub returns-clause-result_value : goal.returns-clause-result_value
returns-clause-result_value c =
    let a = c.args in
    let g = grading a.pairs.now a.rows.now a.tolerance in
    let walked = walk c.in_ok-standing.standing.material.now.sheet c.in_ok-standing.standing.reached.rod (pairs_in a.pairs.now) in
    let same = to_z-of_z c.ranges.tolerance in
    let own = c.check-own.result in
    let told = c.compare-compared.ensures.told ∙ ap (λ (d : ℤ). compared_of d a.rows.now walked) same in
    let decided : answer_by (λ _. a.tolerance) own ≡ first_of (grading_refusals g) a.tolerance =
    subst (λ (d : ℤ). answer_by (λ _. d) own ≡ first_of (grading_refusals (grading a.pairs.now a.rows.now d)) d) same c.check-own.ensures in
    c.verdict.ensures.result_value ∙ ap (λ (v : Verdict). settled_by v own) told ∙ settled_by_is g walked own decided
    ∙ sym (list_walked a.sheet.now a.state.now g (sym c.in_ok-standing.ensures) (sym c.in_ok-count.ensures))
