use Rattle.std.proofs.Common.{arith, ℕ, ◌+◌, ◌-◌, ◌*◌, ◌%◌, ◌^◌, ◌≤◌, ◌<◌, ◌≡◌, ◌∙◌, ◌-ℤ◌}
use Rattle.std.proofs.Math.Nat.{mod-lt}
use Rattle.std.proofs.Math.Pow.{pow_mono, pow_pos}
use mir.Facts.{to_z-of_z, to_z_pos}
use mir.Syntax.{w64}
use mir.Val.{to_z, SFits}
use Rattle.bits.specs.Field.{twos}
use Rattle.bits.proofs.SignLaws.{one_shifted, twos_raised, bits_of_twos}
use Rattle.bits.proofs.number.narrow_number.Goals as goal

half_is : (w : ℕ) → 1 ≤ w → w < 64 → 1 * 2 ^ (w - 1) % 2 ^ 64 ≡ 2 ^ (w - 1)
half_is w some most = one_shifted (w - 1) (omega arith)

half_at_most : (w : ℕ) → w < 64 → 2 ^ (w - 1) ≤ 2 ^ 62
half_at_most w most = pow_mono {j = 62} (omega arith)

raised_below : (w x : ℕ) → w < 64 → (x + 2 ^ (w - 1)) % (2 * 2 ^ (w - 1)) < 2 ^ 63
raised_below w x most =
    let middle = 2 ^ (w - 1) in
    let some : 0 < 2 * middle = omega (arith, pow_pos (w - 1)) in
    omega (arith, half_at_most w most, mod-lt (x + middle) some)

number_is : (w x : ℕ) → 1 ≤ w → w < 64 → x < 2 ^ w
    → let middle = 1 * 2 ^ (w - 1) % 2 ^ 64 in to_z w64 ((x + middle) % (2 * middle)) -ℤ to_z w64 middle ≡ twos w x
number_is w x some most within =
    rw (half_is w some most, to_z_pos w64 (raised_below w x most), to_z_pos w64 {n = 2 ^ (w - 1)} (omega (arith, half_at_most w most)))
    (twos_raised w x some within)

number_fits : (w x : ℕ) → 1 ≤ w → w < 64 → x < 2 ^ w
    → let middle = 1 * 2 ^ (w - 1) % 2 ^ 64 in SFits w64 (to_z w64 ((x + middle) % (2 * middle)) -ℤ to_z w64 middle)
number_fits w x some most within =
    rw (number_is w x some most within)
    (record { sfits = omega (arith, half_at_most w most, (bits_of_twos w x some within).1) })

pub overflow_mul-raised : goal.overflow_mul-raised
overflow_mul-raised c = rw (half_is c.args.width c.requires.0 c.requires.1) (omega (arith, half_at_most c.args.width c.requires.1))

pub overflow_cast-result : goal.overflow_cast-result
overflow_cast-result c = rw (half_is c.args.width c.requires.0 c.requires.1) (record { sfits = raised_below c.args.width c.args.x c.requires.1 })

pub overflow_cast-result-2 : goal.overflow_cast-result-2
overflow_cast-result-2 c =
    rw (half_is c.args.width c.requires.0 c.requires.1) (record { sfits = omega (arith, half_at_most c.args.width c.requires.1) })

pub overflow_sub-result : goal.overflow_sub-result
overflow_sub-result c = number_fits c.args.width c.args.x c.requires.0 c.requires.1 c.requires.2

pub returns : goal.returns
returns c =
    to_z-of_z (number_fits c.args.width c.args.x c.requires.0 c.requires.1 c.requires.2)
    ∙ number_is c.args.width c.args.x c.requires.0 c.requires.1 c.requires.2
