-- Laws 0 and 1 (SPEC 6.3, 6.7 to 6.9): the conditions have a solution and no other, it is the step of the bar without rounding, and plastic
-- strain grows exactly when the trial passes the limit.
use mathlib.Core.Logic.{◌↔◌}
use lib.IntN.{pos}
use Rattle.fractions.specs.Fraction.{Frac, ◌≤F◌, ◌<F◌, ◌≈F◌, whole, ◌+F◌, ◌-F◌, abs_f, signed_f}
use Rattle.fractions.proofs.Comparison.{≤F-of-<F, ≈F-sym, ≈F-trans, ≈F-refl, le_f_true, le_f_false}
use Rattle.fractions.proofs.Cases.{cond_cases}
use Rattle.fractions.proofs.Arithmetic.{signed_same}
use Rattle.fractions.proofs.Signs.{abs_signed, like_signs_abs, like_signs_sign, signed_rest, nought_signed}
use Rattle.flow.specs.Side.{Side, accumulated, Hardens}
use Rattle.flow.specs.Conditions.{OnSide, Isotropic}
use Rattle.flow.specs.Solution.{ExactNumbers, flowed, isotropic}
use Rattle.flow.proofs.OneSide.{one_side_unique, grows_past_limit, limit_positive, rests, flows, flow_balances, on_side_same, growth_not_negative}

module _ {side : Side} {trial A stress A' : Frac} (s : Isotropic side trial A stress A') where
  -- On magnitudes: the stress and the growth of plastic strain come to the trial.
  pub magnitudes_balance : abs_f trial ≈F (abs_f stress +F (accumulated side A' -F accumulated side A))
  magnitudes_balance = like_signs_abs trial stress (growth_not_negative s.side_holds) s.plastic

  -- The new stress has the sign of the trial.
  pub sign_of_trial : stress ≈F signed_f trial (abs_f stress)
  sign_of_trial = like_signs_sign trial stress (growth_not_negative s.side_holds) s.plastic

module _ {side : Side} (curve : Hardens side) where
  pub isotropic_unique : {trial A stress A' stress' A'' : Frac} → Isotropic side trial A stress A' → Isotropic side trial A stress' A''
      → (stress ≈F stress') × (A' ≈F A'')
  isotropic_unique {trial} s s' =
      let (q, a) = one_side_unique curve s.side_holds s'.side_holds (≈F-trans (≈F-sym (magnitudes_balance s)) (magnitudes_balance s')) in
      (≈F-trans (sign_of_trial s) (≈F-trans (signed_same (≈F-refl trial) q) (≈F-sym (sign_of_trial s'))), a)

  pub isotropic_grows : {trial A stress A' : Frac} → side.yield ≤F A → Isotropic side trial A stress A'
      → (accumulated side A <F accumulated side A') ↔ (side.limit A <F abs_f trial)
  isotropic_grows p s = grows_past_limit curve p s.side_holds (magnitudes_balance s)

  pub isotropic_rests : {trial A : Frac} → side.yield ≤F A → abs_f trial ≤F side.limit A → Isotropic side trial A trial A
  isotropic_rests {trial} {A} p h =
      record {
        side_holds = rests curve p h;
        plastic = nought_signed trial trial (accumulated side A);
      }

  pub isotropic_flows : {trial A : Frac} → side.yield ≤F A → side.limit A <F abs_f trial
      → let A' = flowed side (abs_f trial) A in Isotropic side trial A (signed_f trial (side.limit A')) A'
  isotropic_flows {trial} {A} p h =
      record {
        side_holds = on_side_same (≈F-sym (abs_signed trial (≤F-of-<F high))) on;
        plastic = signed_rest trial (accumulated side A' -F accumulated side A) high (flow_balances curve (abs_f trial) A);
      }
    where
      A' : Frac
      A' = flowed side (abs_f trial) A

      on : OnSide side A (side.limit (flowed side (abs_f trial) A)) (flowed side (abs_f trial) A)
      on = flows curve p h

      high : whole (pos 0) <F side.limit (flowed side (abs_f trial) A)
      high = limit_positive curve on.past

  -- The step solves the conditions.
  pub isotropic_solves : (trial A : Frac) → side.yield ≤F A
      → let m = isotropic side trial A in Isotropic side trial A m.stress m.variable
  unfolding isotropic
  isotropic_solves trial A p =
      cond_cases (λ (m : ExactNumbers). Isotropic side trial A m.stress m.variable) _ _ _
      (λ e. isotropic_rests p (le_f_true _ _ e)) (λ e. isotropic_flows p (le_f_false _ _ e))
