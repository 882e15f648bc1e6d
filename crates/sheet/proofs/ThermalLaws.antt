-- Laws of thermal strain (SPEC 5.1).
use Prim.Native.Nat.{◌*◌, ◌≤◌}
use mathlib.Core.Path.{◌≡◌, ap}
use mathlib.Core.Bool.{true}
use mathlib.Core.List.{[]}
use native.Mathlib.Nat.{mul-le-mul}
use native.Mathlib.Omega.{arith}
use lib.IntN.{ℤ, pos, nat_abs, ◌-ℤ◌, ◌*ℤ◌, +ℤ_invr, *ℤ-zero}
use Rattle.ranges.specs.Ranges.{temperature_right}
use Rattle.ranges.proofs.RangeMagnitudes.{temperature_magnitude}
use Rattle.units.proofs.Magnitudes.{magnitude_difference, magnitude_product}
use Rattle.expansion.specs.Coefficient.{coefficient_of}
use Rattle.expansion.specs.Points.{points_of, single_of}
use Rattle.expansion.proofs.Interpolation.{without_points}
use Rattle.expansion.proofs.CoefficientBound.{coefficient_magnitude}
use Rattle.sheet.specs.declared.Sheet.{Sheet}
use Rattle.sheet.specs.Sound.{SheetSound}
use Rattle.sheet.specs.Thermal.{thermal_of}

-- Without points it is the single number times what the temperature is above the reference one, as before there were points.
pub thermal_without_points : (h : Sheet) (t : ℤ) → points_of h.expansion ≡ [] → thermal_of h t ≡ pos (single_of h.expansion) *ℤ (t -ℤ h.reference.0)
unfolding thermal_of
thermal_without_points h t none = ap (λ (a : ℤ). a *ℤ (t -ℤ h.reference.0)) (without_points h.expansion t none)

-- At the reference temperature there is none.
pub thermal_at_reference : (h : Sheet) → thermal_of h h.reference.0 ≡ pos 0
unfolding thermal_of
thermal_at_reference h = rw (+ℤ_invr h.reference.0) (*ℤ-zero (coefficient_of h.expansion h.reference.0))

pub thermal_most : (h : Sheet) (t : ℤ) → SheetSound h → temperature_right t ≡ true → nat_abs (thermal_of h t) ≤ 10000 * 40000
unfolding thermal_of
thermal_most h t sound right =
    let a = coefficient_of h.expansion t in
    let warmer = t -ℤ h.reference.0 in
    let tenths : nat_abs warmer ≤ 40000 =
    omega (arith, magnitude_difference t h.reference.0, temperature_magnitude t right, temperature_magnitude h.reference.0 sound.reference_right) in
    rw (magnitude_product a warmer)
    (mul-le-mul {n₁ = nat_abs a} {m₁ = nat_abs warmer} {n₂ = 10000} {m₂ = 40000} (coefficient_magnitude h.expansion t sound.expansion) tenths)
