-- The number of the bytes is a field that begins at % 8 bits before this one and ends `after` bits behind it.
use Rattle.std.proofs.Common.{arith, ◌≡◌, ◌+◌, ◌-◌, ◌*◌, ◌/◌, ◌%◌}
use Rattle.bits.proofs.FieldLaws.{field_inside}
use Rattle.bits.proofs.SignLaws.{one_shifted}
use Rattle.bits.proofs.word.in_a_word.Goals as goal

pub returns : goal.returns
returns c =
    let a = c.args in
    let to = (a.at + a.width + 7) / 8 in
    let after = 8 * to - a.at - a.width in
    let bits : 8 * (to - a.at / 8) ≡ a.at % 8 + a.width + after = omega arith in
    let start : 8 * (a.at / 8) + a.at % 8 ≡ a.at = omega arith in
    rw (one_shifted a.width (omega arith), c.number-word.ensures, bits, field_inside a.s.now (8 * (a.at / 8)) (a.at % 8) a.width after, start)
