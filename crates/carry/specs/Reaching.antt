-- A rod with the yield limits and the thermal strain that it has reached, and what stands with a sheet (SPEC 7.12, 7.15), cited by the
-- types of this crate and judge; definitions only, nothing is assumed.
use Rattle.std.specs.Prelude.{◌≡◌}
use Rattle.sheet.specs.declared.Sheet.{Sheet}
use Rattle.sheet.specs.Thermal.{thermal_of}
use Rattle.units.specs.Kinds.{nano}
use Rattle.response.specs.Limits.{limits_of}
use Rattle.rod.specs.declared.Rod.{Rod}
use Rattle.rod.specs.Accepted.{Accepted}
use Rattle.carry.specs.declared.Reached.{Reached}

-- SPEC 7.12: a rod with the limits at its variables and the thermal strain at its temperature.
abbrev pub reached_of : Sheet → Rod → Reached
reached_of h r = record { rod = r; limits = limits_of h r.first.0 r.second.0; thermal = nano (thermal_of h r.temperature.0) }

-- SPEC 7.15: these stand together: the rod passes 5 and 6 with a sheet that passes, and limits and thermal strain are its own.
pub record Stands (h : Sheet) (x : Reached) : Type 0 where
  pub accepted : Accepted h x.rod
  pub reached : x ≡ reached_of h x.rod
