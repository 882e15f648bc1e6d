use Rattle.std.proofs.Common.{arith, ◌-◌, ◌≡◌, ◌*◌, ◌^◌, ◌<◌, ◌≤◌, ◌+◌, ℕ, List, get_or}
use Rattle.std.proofs.Math.Pow.{pow_mono}
use Rattle.bits.specs.Field.{field}
use Rattle.bits.proofs.FieldLaws.{field_below, field_next_byte}
use Rattle.bits.proofs.word.number.Goals as goal

-- Seven bytes at most were passed, so one more fits.
room : (s : List ℕ) (from i to x : ℕ) → to ≤ from + 8 → i < to → x ≡ field s (8 * from) (8 * (i - from)) → x < 2 ^ 56
room s from i to x most more is =
    omega (arith, field_below s (8 * from) (8 * (i - from)), pow_mono {i = 8 * (i - from)} {j = 56} (omega arith))

pub loop-i-init : goal.loop-i-init
unfolding field
loop-i-init c =
    let none : 8 * (c.args.from - c.args.from) ≡ 0 = omega arith in
    (omega arith, omega arith, rw none)

pub overflow_mul-x : goal.overflow_mul-x
overflow_mul-x c =
    record { fits = omega (arith, room c.args.s.now c.args.from c.loop-i.i c.args.to c.loop-i.x c.requires.1 c.loop-i-test.true c.loop-i.invariant.2) }

pub overflow_add-x : goal.overflow_add-x
overflow_add-x c =
    record { fits = omega (arith, room c.args.s.now c.args.from c.loop-i.i c.args.to c.loop-i.x c.requires.1 c.loop-i-test.true c.loop-i.invariant.2) }

pub loop-i-preserved : goal.loop-i-preserved
loop-i-preserved c =
    let i = c.loop-i.i in
    let byte = c.byte_at.ensures.value in
    let small : get_or c.args.s.now i 0 < 256 = omega (arith, c.byte_at.ensures.byte) in
    (omega arith, omega arith, omega (arith, field_next_byte c.args.s.now c.args.from i (omega arith) small))
