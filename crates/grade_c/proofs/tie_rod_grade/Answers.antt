use Rattle.std.proofs.Common.{arith, sym, subst}
use Rattle.grade.proofs.Numbers.{Small, grade_small}
use Rattle.grade_c.proofs.tie_rod_grade.Goals as goal

pub in_one_number-requires : goal.in_one_number-requires
in_one_number-requires c =
    let small = subst Small (sym c.in-Err.ensures.result_value) (grade_small c.args.sheet.now c.args.state.now _) in
    omega (arith, small.place)
