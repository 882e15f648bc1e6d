-- SPEC 11.8 under laws 0 and 1: a pair keeps the stored rod within k of the bar, where k counts the pairs that yielded.
use mathlib.Core.Logic.{inl, inr, ⊎_elim}
use Prim.Native.Nat.{ℕ, ◌+◌}
use native.Mathlib.Nat.{add-zero}
use native.Mathlib.Omega.{arith}
use lib.IntN.{ℤ, pos, nat_abs, ◌+ℤ◌}
use Rattle.fractions.specs.Fraction.{Frac, ◌≤F◌, ◌≈F◌, whole, ◌+F◌, abs_f, signed, signed_f, Within}
use Rattle.fractions.proofs.Common.{is_whole_one, is_le}
use Rattle.fractions.proofs.Comparison.{≤F-of-<F, ≈F-refl, ≈F-sym, le_f_true, le_f_false}
use Rattle.fractions.proofs.Cases.{cond_cases}
use Rattle.fractions.proofs.Arithmetic.{whole_abs, whole_signed, within_sym, within_same, within_add}
use Rattle.fractions.proofs.Signs.{signed_abs, abs_not_negative}
use Rattle.bits.specs.Field.{flag}
use Rattle.flow.specs.Side.{Side, Hardens, Flattens}
use Rattle.flow.specs.Solution.{ExactNumbers, flowed, isotropic}
use Rattle.flow.specs.Rounded.{LimitRounded}
use Rattle.flow.specs.Stored.{SideStored, side_stored, isotropic_stored}
use Rattle.flow.proofs.OneSide.{limit_positive}
use Rattle.accuracy.proofs.Close.{IsotropicClose}
use Rattle.accuracy.proofs.Move.{Move}
use Rattle.accuracy.proofs.Magnitudes.{same_signs, limits_apart, stays_past, no_more_than_trial, trial_small, exact_trial_small, magnitudes_small}
use Rattle.accuracy.proofs.Moving.{exact_flows, stored_move}
use Rattle.accuracy.proofs.Signs.{Alike, Unlike, signs}

-- The bar's step as a move on magnitudes, with the sign of its trial.
record ExactMove (side : Side) (trial a stress b : Frac) : Type 0 where
  magnitude : Frac
  not_negative : whole (pos 0) ≤F magnitude
  move : Move side 0 (abs_f trial) a magnitude b
  signed : stress ≈F signed_f trial magnitude

exact_move : {side : Side} → Hardens side → (trial a : Frac) → side.yield ≤F a
    → ExactMove side trial a (isotropic side trial a).stress (isotropic side trial a).variable
unfolding isotropic
exact_move {side} curve trial a p =
    cond_cases (λ (m : ExactNumbers). ExactMove side trial a m.stress m.variable) _ _ _
    (λ e.
    record {
      magnitude = abs_f trial;
      not_negative = abs_not_negative trial;
      move = inl (record { within = le_f_true _ _ e; magnitude = ≈F-refl (abs_f trial); abscissa = ≈F-refl a });
      signed = ≈F-sym (signed_abs trial);
    })
    (λ e.
    let flows = exact_flows curve p (le_f_false _ _ e) in
    record {
      magnitude = side.limit (flowed side (abs_f trial) a);
      not_negative = ≤F-of-<F (limit_positive curve (stays_past curve p (inr flows)));
      move = inr flows;
      signed = ≈F-refl (signed_f trial (side.limit (flowed side (abs_f trial) a)));
    })

module _ {side : Side} (curve : Hardens side) (flat : Flattens side) {limit : ℕ → ℕ} (floor : (a : ℕ) → LimitRounded side (pos a) (limit a)) where
  pub isotropic_stays_close : {k : ℕ} {stress : ℤ} {A : ℕ} {exact-stress exact-A : Frac}
      → IsotropicClose side k stress A exact-stress exact-A → (w : ℤ)
      → let stored = isotropic_stored limit (stress +ℤ w) A in
      let exact = isotropic side (exact-stress +F whole w) exact-A in
      IsotropicClose side (k + flag stored.yielded) stored.stress stored.abscissa exact.stress exact.variable
  unfolding isotropic_stored
  isotropic_stays_close {k} {stress} {A} {exact-stress} {exact-A} c w = ⊎_elim alike unlike (signs (whole (stress +ℤ w)) (exact-stress +F whole w))
    where
      trial : ℤ
      trial = stress +ℤ w

      unrounded_trial : Frac
      unrounded_trial = exact-stress +F whole w

      r : SideStored
      r = side_stored limit (nat_abs trial) A

      g : ℕ
      g = flag r.yielded

      b : ExactNumbers
      b = isotropic side unrounded_trial exact-A

      near : Within k (whole trial) unrounded_trial
      near = within_add stress w c.stress_close

      move : Move side g (abs_f (whole trial)) (whole (pos A)) (whole (pos r.magnitude)) (whole (pos r.abscissa))
      move = rw whole_abs (stored_move curve floor A (nat_abs trial) c.limit_close.past)

      exact : ExactMove side unrounded_trial exact-A b.stress b.variable
      exact = exact_move curve unrounded_trial exact-A c.limit_close.exact_past

      signed_back : Within (k + g) (signed_f (whole trial) (whole (pos r.magnitude))) (signed_f unrounded_trial exact.magnitude)
          → Within (k + g) (whole (signed trial (pos r.magnitude))) b.stress
      signed_back h = rw whole_signed at (within_same h (≈F-refl (signed_f (whole trial) (whole (pos r.magnitude)))) (≈F-sym exact.signed))

      made : Within (k + g) (whole (signed trial (pos r.magnitude))) b.stress → Within (k + g)
          (side.limit (whole (pos r.abscissa))) (side.limit b.variable)
          → IsotropicClose side (k + g) (signed trial (pos r.magnitude)) r.abscissa b.stress b.variable
      made stresses limits =
          record {
            stress_close = stresses;
            limit_close =
                record {
                  past = stays_past curve c.limit_close.past move;
                  exact_past = stays_past curve c.limit_close.exact_past exact.move;
                  close = limits;
                };
          }

      alike : Alike (whole trial) unrounded_trial → IsotropicClose side (k + g) (signed trial (pos r.magnitude)) r.abscissa b.stress
          b.variable
      alike a =
          let (stresses, limits) = same_signs curve flat c.limit_close.past c.limit_close.exact_past move exact.move
          (a.magnitudes near) c.limit_close.close in
          made (signed_back (a.back stresses)) limits

      unlike : Unlike (whole trial) unrounded_trial → IsotropicClose side (k + g) (signed trial (pos r.magnitude)) r.abscissa b.stress
          b.variable
      unlike u =
          let sum = u.magnitudes near in
          let p = c.limit_close.past in
          let p' = c.limit_close.exact_past in
          let first = limits_apart curve p p' move (trial_small k g sum (abs_not_negative unrounded_trial)) c.limit_close.close in
          let both = limits_apart curve p' (stays_past curve p move) exact.move
          (exact_trial_small k g sum (abs_not_negative (whole trial))) (within_sym first) in
          made (signed_back (u.back not_negative exact.not_negative
          (magnitudes_small k g sum (no_more_than_trial move) (no_more_than_trial exact.move))))
          (rw add-zero at (within_sym both))
        where
          not_negative : whole (pos 0) ≤F whole (pos r.magnitude)
          not_negative = (is_le (is_whole_one (pos 0)) (is_whole_one (pos r.magnitude))).1 (omega arith)
