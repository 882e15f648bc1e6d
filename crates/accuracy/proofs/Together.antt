-- One accepted pair keeps the stored rod and the bar together (SPEC 11.12): the invariant of a history, under every law. What is kept of a
-- quantity is a field of its own in the law's record (proofs/Close), so that more can be kept of it.
use Prim.Native.Nat.{ℕ, ◌+◌}
use mathlib.Core.Path.{◌≡◌, refl}
use mathlib.Core.Bool.{Bool}
use mathlib.Core.List.{List}
use native.Mathlib.Omega.{arith}
use lib.IntN.{ℤ, pos, negsuc, nat_abs, ◌+ℤ◌, ◌-ℤ◌, ◌*ℤ◌}
use Rattle.refusals.specs.Table.{passes}
use Rattle.law.specs.declared.Law.{Law}
use Rattle.law.specs.declared.Law.TheVariants.{IsotropicLine, IsotropicCurve, Kinematic, Asymmetric}
use Rattle.bits.specs.Field.{flag}
use Rattle.curve.specs.Curve.{limit_at}
use Rattle.curve.specs.Sides.{curve_of}
use Rattle.sheet.specs.declared.Sheet.{Sheet}
use Rattle.sheet.specs.Sound.{SheetSound}
use Rattle.sheet.specs.Thermal.{thermal_of}
use Rattle.pair.specs.declared.Pair.{Pair}
use Rattle.pair.specs.Pairs.{pair_of}
use Rattle.flow.specs.Side.{Flattens}
use Rattle.flow.specs.Stored.{isotropic_stored, asymmetric_stored}
use Rattle.flow.proofs.Curves.{curve_flattens, curve_rounded}
use Rattle.response.specs.Response.{Outcome, isotropic_moved, kinematic_moved, asymmetric_outcome, outcome_under}
use Rattle.response.specs.Candidates.{tension_side, compression_side}
use Rattle.response.proofs.SoundSides.{sound_passes}
use Rattle.response.proofs.Candidates.{tension_hardens, compression_hardens}
use Rattle.rod.specs.declared.Rod.{Rod}
use Rattle.rod.specs.declared.step.Advance.{Advance}
use Rattle.rod.specs.Steps.{trial_of, rod_after, advance_of}
use Rattle.state.specs.Passing.{StatePasses}
use Rattle.carry.specs.Walk.{pair_answer}
use Rattle.carry.proofs.PairAnswers.{pair_passed, next_passes}
use Rattle.accuracy.specs.Bar.{Bar, exact_trial, isotropic_fed, kinematic_fed, asymmetric_fed, fed_under, bar_step}
use Rattle.accuracy.proofs.Close.{IsotropicClose, KinematicClose, AsymmetricClose}
use Rattle.accuracy.proofs.Isotropic.{isotropic_stays_close}
use Rattle.accuracy.proofs.Kinematic.{kinematic_stays_close}
use Rattle.accuracy.proofs.Asymmetric.{asymmetric_stays_close}
use Rattle.accuracy.proofs.BarSteps.{step_strain}

module _ (h : Sheet) (sound : SheetSound h) where
  abbrev E : ℕ
  E = h.modulus.0

  -- The quantities of the sheet's law, each within k of the bar's.
  abbrev pub CloseUnder : Law → (k : ℕ) → Rod → Bar → Type 0
  CloseUnder IsotropicLine k r b = IsotropicClose (tension_side h sound) k r.stress.0 (nat_abs r.first.0) b.stress b.first
  CloseUnder IsotropicCurve k r b = IsotropicClose (tension_side h sound) k r.stress.0 (nat_abs r.first.0) b.stress b.first
  CloseUnder Kinematic k r b = KinematicClose k r.stress.0 r.first.0 b.stress b.first
  CloseUnder Asymmetric k r b =
      AsymmetricClose (tension_side h sound) (compression_side h sound) k r.stress.0 (nat_abs r.first.0) (nat_abs r.second.0)
      b.stress b.first b.second

  tension_flattens : Flattens (tension_side h sound)
  tension_flattens = curve_flattens sound.modulus_least (sound_passes E h.tension sound.tension)

  compression_flattens : h.law ≡ Asymmetric → Flattens (compression_side h sound)
  compression_flattens is = curve_flattens sound.modulus_least (sound_passes E h.compression (sound.compression is))

  module _ (r : Rod) (b : Bar) (p : Pair) (k : ℕ) (same : r.temperature.0 ≡ b.temperature) where
    abbrev after : Outcome → Rod
    after o = rod_after r p o

    -- E times the change of mechanical strain: the same whole number for both.
    abbrev change : ℤ
    change = pos E *ℤ (p.change.0 -ℤ (thermal_of h p.temperature.0 -ℤ thermal_of h b.temperature))

    trial_is : trial_of h r p ≡ r.stress.0 +ℤ change
    unfolding trial_of
    trial_is = rw same

    isotropic_close : CloseUnder IsotropicLine k r b
        → let o = outcome_under IsotropicLine h r.first.0 r.second.0 (trial_of h r p) in
        CloseUnder IsotropicLine (k + flag o.yielded) (after o) (isotropic_fed h sound b p)
    unfolding outcome_under isotropic_moved isotropic_fed exact_trial
    isotropic_close c =
        rw trial_is
        (isotropic_stays_close (tension_hardens h sound) tension_flattens (curve_rounded sound.modulus_least (curve_of h.tension)) c change)

    -- Law 3's outcome has the numbers of flow's `asymmetric_stored`.
    abbrev AsymmetricUnder : (yielded : Bool) (stress : ℤ) (A B : ℕ) → Bar → Type 0
    AsymmetricUnder yielded stress A B c =
        AsymmetricClose (tension_side h sound) (compression_side h sound) (k + flag yielded) stress A B c.stress c.first c.second

    asymmetric_as_stored : (c : Bar) (s : ℤ) → let T = curve_of h.tension in let C = curve_of h.compression in
        let stored = asymmetric_stored (limit_at E T) (limit_at E C) s (nat_abs r.first.0) (nat_abs r.second.0) in
        let o = asymmetric_outcome E T C r.first.0 r.second.0 s in
        AsymmetricUnder stored.yielded stored.stress stored.tension stored.compression c
        → AsymmetricUnder o.yielded o.stress (nat_abs o.first) (nat_abs o.second) c
    unfolding asymmetric_outcome isotropic_moved isotropic_stored asymmetric_stored
    asymmetric_as_stored c (pos m) close = close
    asymmetric_as_stored c (negsuc n) close = close

    close_kept : (law : Law) → h.law ≡ law → CloseUnder law k r b
        → let o = outcome_under law h r.first.0 r.second.0 (trial_of h r p) in
        CloseUnder law (k + flag o.yielded) (after o) (fed_under h sound law b p)
    unfolding outcome_under kinematic_moved kinematic_fed asymmetric_fed exact_trial
    close_kept IsotropicLine is c = isotropic_close c
    close_kept IsotropicCurve is c = isotropic_close c
    close_kept Kinematic is c =
        let below = sound.tension.tangents_below 0 sound.tension.count_least in
        rw trial_is (kinematic_stays_close sound.modulus_least (omega arith) h.tension.yield_stress.0 c change)
    close_kept Asymmetric is c =
        rw trial_is
        (asymmetric_as_stored (asymmetric_fed h sound b p) (r.stress.0 +ℤ change)
        (asymmetric_stays_close (tension_hardens h sound) (compression_hardens h sound is) tension_flattens (compression_flattens is)
        (curve_rounded sound.modulus_least (curve_of h.tension)) (curve_rounded sound.modulus_least (curve_of h.compression))
        c change))

  -- A state and a bar after the same n pairs, k of which yielded.
  pub record Together (k n : ℕ) (r : Rod) (b : Bar) : Type 0 where
    pub passes : StatePasses h r
    pub k_counted : r.yielded_pairs ≡ k
    pub n_counted : r.pairs ≡ n
    pub strain : r.strain.0 ≡ b.strain
    pub temperature : r.temperature.0 ≡ b.temperature
    pub close : CloseUnder h.law k r b

  pub stays_together : (r : Rod) (b : Bar) (pair : List ℕ) {k n : ℕ} {a : Advance} → Together k n r b → pair_answer h r pair ≡ passes a
      → Together (k + flag a.row.yielded) (n + 1) a.rod (bar_step h sound b (pair_of pair))
  unfolding advance_of
  stays_together r b pair {k} {n} {a} t e =
      let p = pair_of pair in
      let answer = pair_passed h r pair e in
      let next = (next_passes pair t.passes.accepted e).0 in
      let (strain, temperature) = step_strain h sound h.law b p in
      let close = close_kept r b p k t.temperature h.law refl t.close in
      record {
        passes = next;
        k_counted = rw (answer.is, t.k_counted);
        n_counted = rw (answer.is, t.n_counted);
        strain = rw (answer.is, strain, t.strain);
        temperature = rw (answer.is, temperature);
        close = rw answer.is close;
      }
