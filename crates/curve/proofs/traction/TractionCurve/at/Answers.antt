use Rattle.std.proofs.Common.{rules, ◌<◌, ◌≤◌, ◌^◌}
use Rattle.curve.proofs.Walk.{alone, below_yield}
use Rattle.curve.proofs.traction.TractionCurve.at.Goals as goal

pub returns-then-lt-clause-value : goal.returns-then-lt-clause-value
returns-then-lt-clause-value c = below_yield c.args.self.modulus c.args.self.side.now c.args.abscissa c.args.self.readable.modulus_positive (search rules)

pub returns-then-self-eq1 : goal.returns-then-self-eq1
returns-then-self-eq1 c =
    let fits : c.args.abscissa.0 < 2 ^ 64 = search rules in
    let past : c.args.self.side.now.yield_stress.0 ≤ c.args.abscissa.0 = search rules in
    let both = alone c.args.self.modulus c.args.self.side.now c.args.abscissa c.args.self.readable c.args.self.places fits past c.if-self-eq1.true c.reading.result (rw c.minus.ensures at c.reading.ensures) in
    record { value = both.0; most = both.1 }
