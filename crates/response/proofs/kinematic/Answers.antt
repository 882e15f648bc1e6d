use Rattle.std.proofs.Common.{rules, ◌≡◌, ◌<◌, ◌≤◌, ap, ◌∙◌, nat_abs}
use lib.IntN.{◌-ℤ◌}
use Rattle.units.specs.declared.Grain.{Grain}
use Rattle.units.specs.Signs.{is_neg}
use Rattle.sheet.specs.Sound.{tangent_of}
use Rattle.response.proofs.Branches.{within_radius_elastic, past_radius_flows}
use Rattle.response.proofs.kinematic.Goals as goal

pub returns-then-not-passes : goal.returns-then-not-passes
returns-then-not-passes c =
    let size : c.magnitude-size.result.0 ≡ nat_abs (c.args.trial.stress.0 -ℤ c.args.centre.0) = rw (c.magnitude-size.ensures, c.minus-distance.ensures.value) in
    let within : c.magnitude-size.result.0 ≤ c.args.material.now.sheet.tension.yield_stress.0 = search rules in
    within_radius_elastic c.args.material.now.sheet.modulus.0 (tangent_of c.args.material.now.sheet.tension 0) c.args.material.now.sheet.tension.yield_stress.0 c.args.centre.0 c.args.trial.stress.0 (rw size at within)

pub returns : goal.returns
returns c =
    let size : c.magnitude-size.result.0 ≡ nat_abs (c.args.trial.stress.0 -ℤ c.args.centre.0) = rw (c.magnitude-size.ensures, c.minus-distance.ensures.value) in
    let past : c.args.material.now.sheet.tension.yield_stress.0 < c.magnitude-size.result.0 = search rules in
    let negative : c.negative-negative.result ≡ is_neg (c.args.trial.stress.0 -ℤ c.args.centre.0) = c.negative-negative.ensures ∙ ap (λ (g : Grain). is_neg g.0) c.minus-distance.ensures.value in
    rw (
      c.toward.ensures,
      c.plus-stress.ensures.value,
      c.of-2.ensures.value,
      c.plus-moved.ensures.value,
      c.of.ensures.value,
      c.share-shift.ensures.value,
      c.minus.ensures,
      negative,
      size,
    )
    (past_radius_flows c.args.material.now.sheet.modulus.0 (tangent_of c.args.material.now.sheet.tension 0) c.args.material.now.sheet.tension.yield_stress.0 c.args.centre.0 c.args.trial.stress.0 (rw size at past))
