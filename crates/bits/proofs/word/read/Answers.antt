-- Past 56 bits the field is cut in two, the last 32 bits and those before them.
use Rattle.std.proofs.Common.{arith, ◌≡◌, ◌+◌, ◌-◌, ◌^◌, ◌<◌, ◌≤◌, ℕ, List}
use Rattle.std.proofs.Math.Pow.{pow_mono}
use Rattle.bits.specs.Field.{field}
use Rattle.bits.proofs.FieldLaws.{field_below, field_split}
use Rattle.bits.proofs.word.read.Goals as goal

high_fits : (s : List ℕ) (at width : ℕ) → width ≤ 64 → field s at (width - 32) < 2 ^ 32
high_fits s at width most = omega (arith, field_below s at (width - 32), pow_mono {i = width - 32} {j = 32} (omega arith))

pub overflow_mul-result : goal.overflow_mul-result
overflow_mul-result c =
    let a = c.args in
    record { fits = omega (arith, c.in_a_word-high.ensures, high_fits a.s.now a.at a.width c.requires.0) }

pub overflow_add-result : goal.overflow_add-result
overflow_add-result c =
    let a = c.args in
    record {
      fits = omega (arith, c.in_a_word-high.ensures, high_fits a.s.now a.at a.width c.requires.0, c.in_a_word-2.ensures, field_below a.s.now (a.at + (a.width - 32)) 32);
    }

pub returns : goal.returns
returns c =
    let a = c.args in
    let both : a.width ≡ a.width - 32 + 32 = omega arith in
    rw both (rw (field_split a.s.now a.at (a.width - 32) 32, c.in_a_word-high.ensures, c.in_a_word-2.ensures))
