use Rattle.std.proofs.Common.{arith, rules, ◌≡◌, ◌∙◌, false, true}
use lib.Signed.{lt_z, le_z}
use Rattle.std.proofs.lemmas.Int.{ints}
use Rattle.expansion.proofs.PointsFrom.{point_at, up_to_first, begun, before_next, onward, past_last, holds_point}
use Rattle.expansion.proofs.Points.at.Goals as goal

pub returns-then-le-clause-result_value : goal.returns-then-le-clause-result_value
returns-then-le-clause-result_value c = up_to_first c.args.self c.requires.0 c.args.temperature.0 (search rules)

pub loop-next-init : goal.loop-next-init
loop-next-init c =
    let t = c.args.temperature.0 in
    let first = (point_at c.args.self 0).temperature.0 in
    let past : le_z t first ≡ false = search rules in
    begun c.args.self c.requires.0 t past

pub returns-then-next-self-clause-result_value : goal.returns-then-next-self-clause-result_value
returns-then-next-self-clause-result_value c =
    let before : lt_z c.args.temperature.0 (point_at c.args.self c.loop-next.next).temperature.0 ≡ true = search rules in
    c.toward.ensures.result_value
    ∙ before_next c.args.self c.requires.0 c.loop-next.invariant c.if-next-self.true before

-- Past the last point its own coefficient.
pub returns-then-lt-clause-result_value : goal.returns-then-lt-clause-result_value
returns-then-lt-clause-result_value c =
    past_last c.args.self c.requires.0 c.loop-next.invariant (omega (arith, c.if-next-self.false))

pub loop-next-preserved : goal.loop-next-preserved
loop-next-preserved c =
    let t = c.args.temperature.0 in
    let next = c.loop-next.next in
    let after = (point_at c.args.self next).temperature.0 in
    let reached : lt_z t after ≡ false = search rules in
    let inside = holds_point c.args.self t next c.requires.0 c.requires.1 (omega arith) (grind (arith, ints)) in
    onward c.args.self c.requires.0 c.loop-next.invariant inside reached

pub returns-clause-result_value : goal.returns-clause-result_value
returns-clause-result_value c =
    past_last c.args.self c.requires.0 c.loop-next.invariant (omega (arith, c.requires.0.count_fits))
