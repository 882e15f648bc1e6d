-- E times plastic strain: a pair changes it by what the law took from the trial stress, and an unused rod has none.
use Prim.Native.Nat.{ℕ}
use mathlib.Core.Path.{◌≡◌, ap, ◌∙◌}
use native.Mathlib.Nat.{mul-zero}
use native.Mathlib.Omega.{arith}
use lib.IntN.{ℤ, pos, ◌+ℤ◌, ◌-ℤ◌, ◌*ℤ◌}
use Rattle.fractions.proofs.UpDown.{equal_parts, add_parts, sub-parts-ℤ}
use Rattle.fractions.proofs.Ring.{*ℤ-+ℤ}
use Rattle.pair.specs.declared.Pair.{Pair}
use Rattle.sheet.specs.declared.Sheet.{Sheet}
use Rattle.sheet.specs.Thermal.{thermal_of}
use Rattle.sheet.proofs.ThermalLaws.{thermal_at_reference}
use Rattle.rod.specs.declared.Rod.{Rod}
use Rattle.rod.specs.Unused.{unused_of}
use Rattle.rod.specs.Steps.{strain_after, trial_of, plastic_of, plastic_at}

module _ (E : ℕ) (strain change before after : ℤ) where
  abbrev old : ℤ
  old = pos E *ℤ (strain -ℤ before)

  abbrev elastic : ℤ
  elastic = pos E *ℤ (change -ℤ (after -ℤ before))

  -- E times mechanical strain grows by E times the change of strain that isn't thermal.
  pub mechanical_change : pos E *ℤ (strain +ℤ change -ℤ after) ≡ old +ℤ elastic
  mechanical_change =
      ap (λ (z : ℤ). pos E *ℤ z)
      (equal_parts (strain +ℤ change -ℤ after) (strain -ℤ before +ℤ (change -ℤ (after -ℤ before)))
      (omega (
        arith,
        sub-parts-ℤ (strain +ℤ change) after,
        add_parts strain change,
        add_parts (strain -ℤ before) (change -ℤ (after -ℤ before)),
        sub-parts-ℤ strain before,
        sub-parts-ℤ change (after -ℤ before),
        sub-parts-ℤ after before,
      )))
      ∙ *ℤ-+ℤ (pos E) (strain -ℤ before) (change -ℤ (after -ℤ before))

-- What two stresses take from a sum and from its first part.
rest_change : (old elastic s s' : ℤ) → old +ℤ elastic -ℤ s' -ℤ (old -ℤ s) ≡ s +ℤ elastic -ℤ s'
rest_change old elastic s s' =
    equal_parts (old +ℤ elastic -ℤ s' -ℤ (old -ℤ s)) (s +ℤ elastic -ℤ s')
    (omega (
      arith,
      sub-parts-ℤ (old +ℤ elastic -ℤ s') (old -ℤ s),
      sub-parts-ℤ (old +ℤ elastic) s',
      add_parts old elastic,
      sub-parts-ℤ old s,
      sub-parts-ℤ (s +ℤ elastic) s',
      add_parts s elastic,
    ))

pub plastic_changes : (h : Sheet) (r : Rod) (p : Pair) (stress : ℤ)
    → plastic_of h (strain_after r p) p.temperature.0 stress -ℤ plastic_at h r ≡ trial_of h r p -ℤ stress
unfolding trial_of
plastic_changes h r p stress =
    let E = h.modulus.0 in
    let before = thermal_of h r.temperature.0 in
    let after = thermal_of h p.temperature.0 in
    ap (λ (z : ℤ). z -ℤ stress -ℤ plastic_at h r) (mechanical_change E r.strain.0 p.change.0 before after)
    ∙ rest_change (old E r.strain.0 p.change.0 before after) (elastic E r.strain.0 p.change.0 before after) r.stress.0 stress

pub unused_plastic : (h : Sheet) → plastic_at h (unused_of h) ≡ pos 0
unfolding unused_of
unused_plastic h = rw (thermal_at_reference h, mul-zero h.modulus.0)
