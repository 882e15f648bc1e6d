use Rattle.std.proofs.Common.{◌≡◌, ◌∙◌, ◌++◌, ℕ, ℤ, true, false, List, sym, ap}
use Rattle.units.specs.Signs.{is_neg}
use Rattle.units.specs.declared.Magnitude.{Magnitude}
use Rattle.units.specs.Kinds.{magnitude}
use lib.IntN.{nat_abs}
use Rattle.rod_log.specs.Texts.{ascii, numeral, signed_numeral}
use Rattle.rod_log.proofs.AppendLaws.{room_first, room_then, both}
use Rattle.rod_log.proofs.NumeralLaws.{whole_below, whole_not_below}
use Rattle.rod_log.proofs.text.Text.signed.Goals as goal
use Rattle.rod_log.proofs.text.Text.signed.Goals.{then-negative, else-negative}

-- A stress below zero has the text of its sign and its magnitude, and any other that of its magnitude.
module _ (z : ℤ) (m : Magnitude) (after : List ℕ) (size : m ≡ magnitude (nat_abs z)) where
  below : is_neg z ≡ true → signed_numeral z ++ after ≡ ascii "-" ++ (numeral m.0 ++ after)
  below negative = whole_below z after negative ∙ ap (λ (n : Magnitude). ascii "-" ++ (numeral n.0 ++ after)) (sym size)

  not_below : is_neg z ≡ false → signed_numeral z ++ after ≡ numeral m.0 ++ after
  not_below natural = whole_not_below z after natural ∙ ap (λ (n : Magnitude). numeral n.0 ++ after) (sym size)

pub append-requires : goal.append-requires
append-requires c =
    let a = c.args in
    let text = a.self.now in
    let spelled = below a.stress.0 c.magnitude-size.result a.after.now c.magnitude-size.ensures (sym c.negative.ensures ∙ c.if-negative.true) in
    room_first (ascii "-") (numeral c.magnitude-size.result.0 ++ a.after.now) text.out.now text.at (rw spelled at c.requires)

pub number-requires : goal.number-requires
number-requires c =
    let a = c.args in
    let text = a.self.now in
    elim c.if-negative.branch [
      | then-negative w ↦
          let spelled = below a.stress.0 c.magnitude-size.result a.after.now c.magnitude-size.ensures (sym c.negative.ensures ∙ w.if-negative.true) in
          rw w.self-is (room_then (ascii "-") (numeral c.magnitude-size.result.0 ++ a.after.now) text.out.now text.at (rw spelled at c.requires) w.append.ensures.appended)
      | else-negative w ↦
          let spelled = not_below a.stress.0 c.magnitude-size.result a.after.now c.magnitude-size.ensures (sym c.negative.ensures ∙ w.if-negative.false) in
          rw w.self-is (rw spelled at c.requires)
    ]

pub returns-clause-appended : goal.returns-clause-appended
returns-clause-appended c =
    let a = c.args in
    let text = a.self.now in
    elim c.if-negative.branch [
      | then-negative w ↦
          let spelled = below a.stress.0 c.magnitude-size.result a.after.now c.magnitude-size.ensures (sym c.negative.ensures ∙ w.if-negative.true) in
          rw spelled
          (both (ascii "-") (numeral c.magnitude-size.result.0 ++ a.after.now) text.out.now text.at (rw spelled at c.requires) w.append.ensures.appended (rw w.self-is at c.number.ensures.appended))
      | else-negative w ↦
          let spelled = not_below a.stress.0 c.magnitude-size.result a.after.now c.magnitude-size.ensures (sym c.negative.ensures ∙ w.if-negative.false) in
          rw spelled (rw w.self-is at c.number.ensures.appended)
    ]
