use Rattle.std.proofs.Common.{arith, rules, ◌≡◌, ◌+◌, ◌-◌, ◌*◌, ◌<◌, ◌≤◌, ◌^◌, length, take, get_or, inl, inr, ap, refl}
use lib.Seq.{get_or-take, length-take-le}
use Rattle.units.specs.declared.Magnitude.{Magnitude}
use Rattle.curve.specs.declared.Side.{Side}
use Rattle.curve.specs.Carried.{span_at, Carries}
use Rattle.curve.specs.Sides.{curve_of, flat, length_at, tangent_of}
use Rattle.curve.proofs.Walk.{begun, onward, stop}
use Rattle.curve.proofs.traction.TractionCurve.walk.Given.{Live-loop-segment}
use Rattle.curve.proofs.traction.TractionCurve.walk.Invariants.{invariant-loop-segment}
use Rattle.curve.proofs.traction.TractionCurve.walk.Goals as goal
use Rattle.curve.proofs.traction.TractionCurve.walk.Goals.{After-times-own_rise, After-plus-rise}

pub loop-segment-init : goal.loop-segment-init
loop-segment-init c =
    let fits : c.args.abscissa.0 < 2 ^ 64 = search rules in
    rw c.minus-past.ensures (begun c.args.self.modulus c.args.self.side.now c.args.abscissa.0 c.args.self.readable c.args.self.places fits c.requires)

number : {m n : Magnitude} → m ≡ n → m.0 ≡ n.0
number is = ap (λ (m : Magnitude). m.0) is

length_taken : (side : Side) → side.count ≤ 7 → length side.segments ≡ 7 → length (take (side.count - 1) side.segments) ≡ side.count - 1
length_taken side fits seven = length-take-le (side.count - 1) side.segments (omega arith)

-- There is a segment behind the one that is taken.
turn : (c : After-times-own_rise) → c.loop-segment.segment-index < c.args.self.side.now.count - 1
turn c =
    let inv = c.loop-segment.invariant in
    omega (arith, length_taken c.args.self.side.now inv.readable.count_fits inv.array, c.loop-segment-test.true)

-- The segment taken is the side's,
own : (c : After-times-own_rise) → get_or (take (c.args.self.side.now.count - 1) c.args.self.side.now.segments) c.loop-segment.segment-index flat ≡ get_or c.args.self.side.now.segments c.loop-segment.segment-index flat
own c = get_or-take (c.args.self.side.now.count - 1) c.args.self.side.now.segments c.loop-segment.segment-index flat (turn c)

-- so its span is that segment's.
span : (c : After-times-own_rise) → c.times-span.result.0 ≡ c.args.self.modulus.0 * length_at c.args.self.side.now c.loop-segment.segment-index
span c = let same = own c in cc (number c.times-span.ensures)

pub returns-then-lt-clause-value : goal.returns-then-lt-clause-value
returns-then-lt-clause-value c =
    let here = (goal.at.returns-then-lt-clause-value c).After-times-own_rise in
    let before : c.loop-segment.past.0 < c.times-span.result.0 = search rules in
    (stop c.loop-segment.invariant (inr (omega (arith, turn here), omega (arith, span here, before))) c.reading.result (rw (c.plus.ensures, own here) at c.reading.ensures) c.args.abscissa refl).0

-- What is carried on is the rise so far and the segment's own.
carried_on : (c : After-plus-rise) → c.plus-rise.result.0 ≡ c.loop-segment.rise.0 + tangent_of c.args.self.side.now c.loop-segment.segment-index * length_at c.args.self.side.now c.loop-segment.segment-index
carried_on c =
    let side = c.args.self.side.now in
    let i = c.loop-segment.segment-index in
    let inv = c.loop-segment.invariant in
    let turn : i < side.count - 1 = omega (arith, length_taken side inv.readable.count_fits inv.array, c.loop-segment-test.true) in
    let same = get_or-take (side.count - 1) side.segments i flat turn in
    let own : c.times-own_rise.result.0 ≡ tangent_of side i * length_at side i = cc (number c.times-own_rise.ensures) in
    omega (arith, number c.plus-rise.ensures, own)

pub loop-segment-preserved : goal.loop-segment-preserved
loop-segment-preserved c =
    let here = (goal.at.loop-segment-preserved c).After-times-own_rise in
    let ends : c.times-span.result.0 ≤ c.loop-segment.past.0 = search rules in
    onward c.loop-segment.invariant (omega (arith, turn here)) (omega (arith, span here, ends)) (carried_on (goal.at.loop-segment-preserved c).After-plus-rise) (omega (arith, number c.minus-past-in-loop-segment.ensures, span here))

pub returns-clause-value : goal.returns-clause-value
returns-clause-value c =
    let inv = c.loop-segment.invariant in
    let at_last : c.args.self.side.now.count - 1 ≡ c.loop-segment.segment-index =
    omega (arith, inv.index, length_taken c.args.self.side.now inv.readable.count_fits inv.array, c.loop-segment-test.false) in
    (stop inv (inl (omega (arith, inv.index, at_last))) c.reading-2.result (rw (c.plus-2.ensures, at_last) at c.reading-2.ensures) c.args.abscissa refl).0

-- SPEC 4.11: the loop begins with the invariant and keeps it from turn to turn. By it each segment that the loop reaches is one of the side,
-- what is carried there is T at its start less the yield, and what is left of the abscissa lies beyond that start.
pub walk_carries : goal.loop-segment-init × goal.loop-segment-preserved × ((l : Live-loop-segment) → (inv : invariant-loop-segment l)
    → let E = l.modulus.0 in let curve = curve_of l.fn.self.side.now in
    (l.segment-index < l.fn.self.side.now.count) × Carries E inv.readable.modulus_positive curve l.segment-index l.rise.0
    × ((span_at E curve l.segment-index).start + l.past.0 ≡ l.fn.abscissa.0))
walk_carries = (loop-segment-init, loop-segment-preserved, λ l inv. (inv.index, inv.carries inv.readable.modulus_positive, inv.lies))
