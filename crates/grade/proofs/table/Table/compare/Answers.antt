use Rattle.std.proofs.Common.{rules, arith, refl, sym, ap, ◌<◌, ◌≤◌, ◌^◌, nat_abs}
use Rattle.refusals.specs.Reasons.{number_in}
use Rattle.ranges.specs.Ranges.{most_pairs}
use Rattle.tie_rod.specs.Calls.{count_in}
use Rattle.tie_rod.proofs.WalkLaws.{visits_any, visited_keeps}
use Rattle.grade.proofs.GradeLaws.{stress_small, first_named, compared_at_end}
use Rattle.grade.proofs.table.Table.compare.Goals as goal

pub walk-walked-requires : goal.walk-walked-requires
walk-walked-requires c =
    let count = count_in c.args.self.pairs.now in
    let few : count ≤ most_pairs = c.args.self.few in
    visits_any _ _ count (λ f row j fits more.
    let near : j < 2 ^ 52 = omega (arith, more, few) in
    let small : nat_abs row.stress.0 < 2 ^ 62 = stress_small row.stress.0 fits.stress in
    search (near, small, rules)) _ 0 count (omega arith)

-- The closure still holds the grade that was lent, and so it is the grade.
pub returns-in-None : goal.returns-in-None
returns-in-None c =
    let visited = c.walk-walked.ensures.visited in
    let same = visited_keeps _ (λ h. h.0.ghost_name) (λ h row j g step. search rules) _ 0 _ _ visited in
    let named = first_named (λ h. h.0.now) (λ h. h.1.now) _ (λ h row j g step. search rules) (λ h row j g step. search rules) c.args.self _ 0 _ _ refl refl visited in
    record {
      told = compared_at_end _ _ _ _ c.walk-walked.ensures.value (ap number_in c.in-None.is) (search (sym same, named.0, rules));
      apart = search (sym same, named.1, rules);
    }
