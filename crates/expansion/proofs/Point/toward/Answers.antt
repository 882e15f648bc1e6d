-- The line lies over the way between the two points.
use Rattle.std.proofs.Common.{arith}
use Rattle.expansion.proofs.Line.{Between, ways, weighted_most, line_floor, line_most}
use Rattle.expansion.proofs.Point.toward.Goals as goal
use Rattle.expansion.proofs.Point.toward.Goals.{After-tenths_above-rest}

lies : (c : After-tenths_above-rest) → Between c.args.self c.args.next c.args.temperature.0
lies c =
    record {
      from = c.requires.temperature_value.0;
      before = c.requires.temperature_value.1;
      right = c.requires.points.0;
      right' = c.requires.points.1;
    }

pub weighted-requires-clause-room : goal.weighted-requires-clause-room
weighted-requires-clause-room c =
    let b = lies ((goal.at.weighted-requires-clause-room c).After-tenths_above-rest) in
    omega (arith, weighted_most b c.tenths_above-past.result, weighted_most b c.tenths_above-rest.result)

pub returns-clause-result_value : goal.returns-clause-result_value
returns-clause-result_value c =
    let b = lies ((goal.at.returns-clause-result_value c).After-tenths_above-rest) in
    let x = c.tenths_above-past.ensures in
    let y = c.tenths_above-rest.ensures in
    line_floor _ _ _ _ _ (ways b _ _ x y) _ (omega (arith, c.weighted.ensures))

pub returns-clause-most : goal.returns-clause-most
returns-clause-most c =
    let b = lies ((goal.at.returns-clause-most c).After-tenths_above-rest) in
    line_most b _ _ c.tenths_above-past.ensures c.tenths_above-rest.ensures _ (omega (arith, c.weighted.ensures))
