use Rattle.std.proofs.Common.{sym, ◌∙◌}
use Rattle.response.proofs.Branches.{side_still, side_moved, within_limit_elastic, past_limit_flows}
use Rattle.response.proofs.isotropic.Goals as goal

pub returns-in_default : goal.returns-in_default
returns-in_default c =
    let a = c.args in
    let answers = rw (c.requires.limit, c.magnitude-2.ensures, c.magnitude.ensures) at c.side_flow.ensures in
    within_limit_elastic a.curve.side.now a.curve.modulus a.abscissa.0 a.trial.stress.0 c.requires.abscissa.not_negative
    (side_still _ _ _ (sym answers ∙ c.in_default.is))

pub returns : goal.returns
returns c =
    let a = c.args in
    let answers = rw (c.requires.limit, c.magnitude-2.ensures, c.magnitude.ensures) at c.side_flow.ensures in
    let moved = side_moved _ _ _ (sym answers ∙ c.in-Some.is) in
    rw (c.flow.ensures, c.negative.ensures, sym moved.1)
    (past_limit_flows a.curve.side.now a.curve.modulus a.abscissa.0 a.trial.stress.0 moved.0)
