-- The sides of a sound sheet can be read in 64 bits.
use Prim.Native.Nat.{◌≤◌}
use native.Mathlib.Omega.{arith}
use Rattle.ranges.specs.Ranges.{most_modulus}
use Rattle.units.specs.declared.Modulus.{Modulus}
use Rattle.curve.specs.declared.Side.{Side}
use Rattle.curve.specs.Sides.{Readable}
use Rattle.sheet.specs.Sound.{SideSound}

pub side_readable : (side : Side) (e : Modulus) → 1 ≤ e.0 → e.0 ≤ most_modulus → SideSound e.0 side → Readable side e
side_readable side e some most sound =
    record {
      count_positive = sound.count_least;
      count_fits = sound.count_most;
      modulus_positive = some;
      modulus_fits = omega arith;
      tangents_fit = λ i h. omega (arith, sound.tangents_below i h);
      lengths_fit = λ i h. omega (arith, sound.lengths_most i h);
    }
