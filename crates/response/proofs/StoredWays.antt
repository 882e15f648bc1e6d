-- SPEC 7.7: roundings never turn a flow about: in tension the stored stress isn't above the trial, in compression not below it. The rest
-- is what E times plastic strain changes by (SPEC 5.5).
use Prim.Native.Nat.{ℕ, ◌+◌, ◌-◌, ◌*◌, ◌/◌, ◌≤◌, ◌<◌}
use mathlib.Core.Path.{◌≡◌, refl, sym, ap}
use mathlib.Core.Bool.{Bool, true, false, true≢false}
use native.Mathlib.Omega.{arith}
use borrow.Author.Tests.{leb-false}
use lib.IntN.{ℤ, pos, negsuc, neg_ℤ, nat_abs, ◌+ℤ◌, ◌-ℤ◌}
use lib.Dec.{leb}
use Rattle.fractions.specs.Fraction.{◌≤F◌, whole, signed}
use Rattle.fractions.proofs.UpDown.{up, dn, le_of_parts, neg_parts, add_parts, sub-parts-ℤ}
use Rattle.fractions.proofs.Cases.{cond_cases}
use Rattle.law.specs.declared.Law.{Law}
use Rattle.law.specs.declared.Law.TheVariants.{IsotropicLine, IsotropicCurve, Kinematic, Asymmetric}
use Rattle.units.proofs.Floors.{floor_at_most}
use Rattle.curve.specs.Curve.{Curve, limit_at}
use Rattle.curve.specs.Sides.{curve_of}
use Rattle.sheet.specs.declared.Sheet.{Sheet}
use Rattle.sheet.specs.Sound.{SheetSound, tangent_of}
use Rattle.flow.specs.Side.{Hardens}
use Rattle.flow.specs.CurveSide.{side_of}
use Rattle.flow.specs.Stored.{SideStored, KinematicStored, side_stored, isotropic_stored, kinematic_stored}
use Rattle.flow.proofs.Curves.{curve_rounded}
use Rattle.flow.proofs.SideRounding.{stored_within}
use Rattle.response.specs.Response.{flow_branch, isotropic_moved, kinematic_moved, asymmetric_outcome, outcome_under, outcome_of}
use Rattle.response.specs.Solved.{Shows, AbscissasPast}
use Rattle.response.proofs.Candidates.{tension_hardens, compression_hardens}
use Rattle.response.proofs.Laws.{yield_within}

-- A stress with the trial's sign that is no further from nought.
signed_way : (yielded : Bool) (trial : ℤ) (m : ℕ) → m ≤ nat_abs trial → (yielded ≡ false → m ≡ nat_abs trial)
    → Shows (flow_branch yielded trial) (signed trial (pos m)) trial
signed_way false (pos n) m few still = ap pos (sym (still refl))
signed_way false (negsuc n) m few still = ap (λ (k : ℕ). neg_ℤ (pos k)) (sym (still refl))
signed_way true (pos n) m few still = le_of_parts (pos m) (pos n) (omega arith)
signed_way true (negsuc n) m few still = le_of_parts (negsuc n) (neg_ℤ (pos m)) (omega (arith, neg_parts (pos m)))

still_magnitude : (limit : ℕ → ℕ) (m A : ℕ) → (side_stored limit m A).yielded ≡ false → (side_stored limit m A).magnitude ≡ m
unfolding side_stored
still_magnitude limit m A =
    cond_cases (λ (r : SideStored). r.yielded ≡ false → r.magnitude ≡ m) (leb m (limit A)) _ _ (λ t e. refl) (λ t e. absurd (true≢false e))

isotropic_way : {E : ℕ} (some : 0 < E) (curve : Curve) → Hardens (side_of E some curve) → (A : ℕ) → whole (pos curve.yield) ≤F whole (pos A)
    → (trial : ℤ) → let m = isotropic_moved E curve (pos A) trial in Shows m.branch m.stress trial
unfolding isotropic_moved isotropic_stored
isotropic_way {E} some curve hardens A past trial =
    let stored = side_stored (limit_at E curve) (nat_abs trial) A in
    signed_way stored.yielded trial stored.magnitude (stored_within hardens (curve_rounded some curve) A past (nat_abs trial))
    (still_magnitude (limit_at E curve) (nat_abs trial) A)

-- A stress between the centre and the trial: `s` is the trial as seen from there.
about_centre : (s X trial : ℤ) → s ≡ trial -ℤ X → (shift yield : ℕ) → shift + yield ≤ nat_abs s
    → Shows (flow_branch true s) (X +ℤ signed s (pos shift) +ℤ signed s (pos yield)) trial
about_centre (pos n) X trial e shift yield few =
    le_of_parts (X +ℤ pos shift +ℤ pos yield) trial
    (omega (arith, add_parts (X +ℤ pos shift) (pos yield), add_parts X (pos shift), sub-parts-ℤ trial X, ap up e, ap dn e))
about_centre (negsuc n) X trial e shift yield few =
    le_of_parts trial (X +ℤ neg_ℤ (pos shift) +ℤ neg_ℤ (pos yield))
    (omega (
      arith,
      add_parts (X +ℤ neg_ℤ (pos shift)) (neg_ℤ (pos yield)),
      add_parts X (neg_ℤ (pos shift)),
      neg_parts (pos shift),
      neg_parts (pos yield),
      sub-parts-ℤ trial X,
      ap up e,
      ap dn e,
    ))

kinematic_way : (E tangent yield : ℕ) → tangent ≤ E → (X trial : ℤ)
    → let m = kinematic_moved E tangent yield X trial in Shows m.branch m.stress trial
unfolding kinematic_moved kinematic_stored
kinematic_way E tangent yield below X trial =
    let s = trial -ℤ X in
    cond_cases (λ (r : KinematicStored). Shows (flow_branch r.yielded s) r.stress trial) (leb (nat_abs s) yield) _ _ (λ t. refl)
    (λ t. let past = leb-false (nat_abs s) yield t in
    about_centre s X trial refl ((nat_abs s - yield) * tangent / E) yield (omega (arith, floor_at_most (nat_abs s - yield) tangent E below)))

module _ (h : Sheet) (sound : SheetSound h) where
  way_under : (law : Law) → h.law ≡ law → (trial first second : ℤ) → AbscissasPast law h first second
      → let o = outcome_under law h first second trial in Shows o.branch o.stress trial
  unfolding outcome_under asymmetric_outcome curve_of
  way_under IsotropicLine is trial (pos A) second p = isotropic_way sound.modulus_least (curve_of h.tension) (tension_hardens h sound) A (yield_within p.past) trial
  way_under IsotropicLine is trial (negsuc n) second p = absurd (true≢false p.not_negative)
  way_under IsotropicCurve is trial (pos A) second p = isotropic_way sound.modulus_least (curve_of h.tension) (tension_hardens h sound) A (yield_within p.past) trial
  way_under IsotropicCurve is trial (negsuc n) second p = absurd (true≢false p.not_negative)
  way_under Kinematic is trial X second p =
      kinematic_way h.modulus.0 (tangent_of h.tension 0) h.tension.yield_stress.0
      (omega (arith, sound.tension.tangents_below 0 sound.tension.count_least)) X trial
  way_under Asymmetric is (pos m) (pos A) B p = isotropic_way sound.modulus_least (curve_of h.tension) (tension_hardens h sound) A (yield_within p.0.past) (pos m)
  way_under Asymmetric is (pos m) (negsuc n) B p = absurd (true≢false p.0.not_negative)
  way_under Asymmetric is (negsuc m) A (pos B) p =
      isotropic_way sound.modulus_least (curve_of h.compression) (compression_hardens h sound is) B (yield_within p.1.past) (negsuc m)
  way_under Asymmetric is (negsuc m) A (negsuc n) p = absurd (true≢false p.1.not_negative)

pub law_shows : (h : Sheet) (sound : SheetSound h) (trial first second : ℤ) → AbscissasPast h.law h first second
    → let o = outcome_of h first second trial in Shows o.branch o.stress trial
law_shows h sound trial first second past = way_under h sound h.law refl trial first second past
