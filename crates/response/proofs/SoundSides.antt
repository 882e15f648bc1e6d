-- The curve of a side of a sheet that passed is one that the theorems on the laws speak of.
use Prim.Native.Nat.{ℕ, ◌≤◌}
use native.Mathlib.Omega.{arith}
use lib.ListN.{length}
use Rattle.curve.specs.declared.Side.{Side}
use Rattle.curve.specs.Sides.{curve_of}
use Rattle.curve.proofs.Rules.{side_below, side_falling}
use Rattle.sheet.specs.Sound.{SideSound}
use Rattle.flow.specs.CurveSide.{CurvePasses}

pub sound_passes : (E : ℕ) (side : Side) → SideSound E side → CurvePasses E (curve_of side)
unfolding curve_of
sound_passes E side sound =
    let fits : side.count ≤ length side.segments = omega (arith, sound.places, sound.count_most) in
    let below = sound.tangents_below 0 sound.count_least in
    record {
      yield_pos = omega (arith, sound.yield_least);
      below = side_below E side fits sound.count_least sound.tangents_below;
      falling = side_falling E side fits sound.count_least (omega arith) sound.tangents_fall;
    }
