use Rattle.std.proofs.Common.{arith, ◌≡◌, ℤ, pos, negsuc, ◌-ℤ◌}
use lib.Signed.{mag}
use mir.Facts.{to_z-of_z}
use mir.Syntax.{w64}
use mir.Val.{to_z, of_z, SFits}
use Rattle.bits.specs.Field.{bits_of}
use Rattle.bits.proofs.SignLaws.{half, ones_shifted, minus_one_plus, below_zero_is, from_zero_is}
use Rattle.bits.proofs.number.bits_of.Goals as goal

-- What is below minus one, of a negative number as the machine holds it.
distance : (z : ℤ) → SFits w64 z → z ≡ negsuc (mag z) → to_z w64 (of_z w64 (negsuc 0 -ℤ to_z w64 (of_z w64 z))) ≡ pos (mag z)
distance z fits negative =
    let below : SFits w64 (negsuc (mag z)) = rw negative at fits in
    let natural : SFits w64 (pos (mag z)) = record { sfits = below.sfits } in
    let same : negsuc 0 -ℤ z ≡ pos (mag z) = rw negative (minus_one_plus (mag z)) in
    rw (to_z-of_z fits, same) (to_z-of_z natural)

pub overflow_sub-result-then-z-lt0-2 : goal.overflow_sub-result-then-z-lt0-2
overflow_sub-result-then-z-lt0-2 c =
    let negative = below_zero_is c.args.z (rw (to_z-of_z c.ranges.z) at c.if-z-lt0.true) in
    rw (distance c.args.z c.ranges.z negative, ones_shifted c.args.width c.requires.1) (omega (arith, half c.args.width c.requires.0, c.requires.2))

pub returns-then-z-lt0 : goal.returns-then-z-lt0
unfolding bits_of
returns-then-z-lt0 c =
    let negative = below_zero_is c.args.z (rw (to_z-of_z c.ranges.z) at c.if-z-lt0.true) in
    rw (distance c.args.z c.ranges.z negative, ones_shifted c.args.width c.requires.1, negative)

pub returns : goal.returns
unfolding bits_of
returns c =
    let natural = from_zero_is c.args.z (rw (to_z-of_z c.ranges.z) at c.if-z-lt0.false) in
    rw (to_z-of_z c.ranges.z, natural)
