use Rattle.std.proofs.Common.{rules, true, false, sym, ◌∙◌}
use Rattle.response.proofs.Places.{isotropic_response, kinematic_response, asymmetric_response}
use Rattle.response.proofs.variables.Variables.moved.Goals as goal

pub returns-in-IsotropicLine : goal.returns-in-IsotropicLine
returns-in-IsotropicLine c =
    let a = c.args in
    isotropic_response a.self.material.now.sheet a.self.first a.self.second a.trial.stress c.isotropic.result c.in-IsotropicLine.is (search (rules, c.isotropic.ensures))

pub returns-in-Kinematic : goal.returns-in-Kinematic
returns-in-Kinematic c =
    let a = c.args in
    kinematic_response a.self.material.now.sheet a.self.first a.self.second a.trial.stress c.kinematic.result c.in-Kinematic.is c.kinematic.ensures

pub returns-then-negative : goal.returns-then-negative
returns-then-negative c =
    let a = c.args in
    let below = sym c.negative.ensures ∙ c.if-negative.true in
    asymmetric_response a.self.material.now.sheet a.self.first a.self.second a.trial.stress c.isotropic-then-negative.result true c.in-Asymmetric.is below (search (rules, c.isotropic-then-negative.ensures))

pub returns-else-negative : goal.returns-else-negative
returns-else-negative c =
    let a = c.args in
    let not-below = sym c.negative.ensures ∙ c.if-negative.false in
    asymmetric_response a.self.material.now.sheet a.self.first a.self.second a.trial.stress c.isotropic-in-Asymmetric.result false c.in-Asymmetric.is not-below (search (rules, c.isotropic-in-Asymmetric.ensures))
