-- Signed numbers in 64 bits: one whose magnitude lies below 2 ^ 63 fits. Assumes nothing.
use Prim.Native.Nat.{◌^◌, ◌<◌}
use native.Mathlib.Omega.{arith}
use lib.IntN.{ℤ, pos, negsuc, nat_abs}
use mir.Syntax.{w64}
use mir.Val.{SFits, to_z, of_z}

pub fits_of_magnitude : (z : ℤ) → nat_abs z < 2 ^ 63 → SFits w64 z
fits_of_magnitude (pos n) below = record { sfits = below }
fits_of_magnitude (negsuc n) below = record { sfits = omega arith }

-- What a local of 64 bits gives back.
abbrev pub stored : ℤ → ℤ
stored z = to_z w64 (of_z w64 z)
