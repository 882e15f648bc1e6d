-- Thermal strain (SPEC 5.1), cited by rod and accuracy; definitions only, nothing is assumed.
use Rattle.std.specs.Prelude.{ℤ, ◌-ℤ◌, ◌*ℤ◌}
use Rattle.expansion.specs.Coefficient.{coefficient_of}
use Rattle.sheet.specs.declared.Sheet.{Sheet}

-- SPEC 5.1: the coefficient at the temperature times what that is above the reference one, in nano, for a temperature in tenths.
unfoldable pub thermal_of : Sheet → ℤ → ℤ
thermal_of h temperature = coefficient_of h.expansion temperature *ℤ (temperature -ℤ h.reference.0)
