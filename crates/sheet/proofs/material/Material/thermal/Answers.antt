use Rattle.std.proofs.Common.{◌∙◌, ℤ, ◌*ℤ◌}
use mathlib.Core.Path.{ap₂}
use Rattle.units.specs.Kinds.{nano}
use Rattle.units.specs.declared.Tenths.{Tenths}
use Rattle.sheet.specs.Thermal.{thermal_of}
use Rattle.sheet.proofs.material.Material.thermal.Goals as goal

pub returns-clause-value : goal.returns-clause-value
unfolding thermal_of
returns-clause-value c =
    c.times.ensures.value ∙ ap₂ (λ (a : ℤ) (d : Tenths). nano (a *ℤ d.0)) c.at.ensures.result_value c.minus.ensures.value
