-- Each segment that the loop takes is the side's own.
use Rattle.std.proofs.Common.{rules, arith, Bool, ◌&&◌, ◌≡◌, ◌<◌, ◌≤◌, ◌-◌, ℕ, length, take, get_or, cond, sym, ap, ◌∙◌}
use lib.Dec.{eqb, ltb, leb}
use lib.Seq.{get_or-take, length-take-le}
use Rattle.curve.specs.declared.Segment.{Segment}
use Rattle.curve.specs.declared.Side.{Side}
use Rattle.curve.specs.Sides.{flat, tangent_of}
use Rattle.sheet.specs.ReaderAnswers.{tangent_falls}
use Rattle.sheet.proofs.SheetLaws.{all_below_stops}
use Rattle.sheet.proofs.TangentLaws.{tangent_rule}
use Rattle.sheet.proofs.falls.Goals as goal

module _ (side : Side) (seven : length side.segments ≡ 7) (few : side.count ≤ 7) where
  taken : length (take side.count side.segments) ≡ side.count
  taken = length-take-le side.count side.segments (omega arith)

  own : (i : ℕ) → i < side.count → (get_or (take side.count side.segments) i flat).tangent.0 ≡ tangent_of side i
  own i more = ap (λ (s : Segment). s.tangent.0) (get_or-take side.count side.segments i flat more)

  rule : (modulus i : ℕ) {b : Bool} → i < side.count → let t = (get_or (take side.count side.segments) i flat).tangent.0 in
      ltb t modulus && leb t (cond (eqb i 0) modulus (tangent_of side (i - 1))) ≡ b → tangent_falls side modulus i ≡ b
  rule modulus i more e =
      tangent_rule side modulus i ∙ ap (λ (t : ℕ). ltb t modulus && leb t (cond (eqb i 0) modulus (tangent_of side (i - 1)))) (sym (own i more)) ∙ e

pub returns-then-not-keeps : goal.returns-then-not-keeps
returns-then-not-keeps c =
    let side = c.args.side in
    let i = c.loop-segment.segment-index in
    let seven : length side.segments ≡ 7 = search rules in
    let more : i < side.count = omega (arith, taken side seven c.requires, c.loop-segment-test.true) in
    sym (all_below_stops (tangent_falls side c.args.modulus.0) i side.count more (rule side seven c.requires c.args.modulus.0 i more (search rules)))
