-- The thermal strains before and after a pair are small.
use Prim.Native.Nat.{◌≤◌}
use mathlib.Core.Path.{◌≡◌}
use native.Mathlib.Omega.{arith}
use lib.IntN.{nat_abs}
use Rattle.pair.specs.declared.Pair.{Pair}
use Rattle.pair.proofs.PairLaws.{pair_facts}
use Rattle.sheet.specs.declared.Sheet.{Sheet}
use Rattle.sheet.proofs.ThermalLaws.{thermal_most}
use Rattle.rod.specs.declared.Rod.{Rod}
use Rattle.rod.specs.declared.step.ThermalStrains.{ThermalStrains}
use Rattle.rod.specs.Steps.{thermal_strains_of}
use Rattle.rod.specs.Accepted.{Accepted, PairAccepted}
use Rattle.rod.proofs.RangeFacts.{ranged}

pub thermals_most : (h : Sheet) (r : Rod) (p : Pair) {w : ThermalStrains} → Accepted h r → PairAccepted p → w ≡ thermal_strains_of h r p
    → (nat_abs w.before.0 ≤ 400000000) × (nat_abs w.after.0 ≤ 400000000)
thermals_most h r p accepted pair is =
    let before = thermal_most h r.temperature.0 accepted.sound (ranged r accepted.in_range).temperature in
    let after = thermal_most h p.temperature.0 accepted.sound (pair_facts p pair).1 in
    rw is (omega (arith, before), omega (arith, after))
