-- Law 3 (SPEC 6.5, 6.7 to 6.9): the conditions have a solution and no other, it is the step of the bar without rounding, at most one side
-- flows, and a side's plastic strain grows exactly when the trial passes its limit. Compression is tension with the two sides exchanged
-- (`mirrored`).
use mathlib.Core.List.{[], ◌∷◌}
use mathlib.Core.Logic.{◌↔◌}
use native.Mathlib.Omega.{arith}
use lib.IntN.{pos}
use Rattle.fractions.specs.Fraction.{Frac, ◌≤F◌, ◌<F◌, ◌≈F◌, ◌+F◌, neg_f, ◌-F◌}
use Rattle.fractions.proofs.Common.{is_own, is_whole, is_add, is_negated, is_sub, is_le, is_lt, is_eq, at-common}
use Rattle.fractions.proofs.Comparison.{≤F-antisym, ≤F-trans, <F-not-≤F, ≤F-<F-trans, ≤F-of-<F, ≤F-of-≈F, ≤F-of-not-<F, ≈F-sym, ≈F-trans, ≈F-refl, le_f_true, le_f_false}
use Rattle.fractions.proofs.Cases.{cond_cases}
use Rattle.fractions.proofs.Arithmetic.{sub_same}
use Rattle.flow.specs.Side.{Side, accumulated, Hardens}
use Rattle.flow.specs.Conditions.{OnSide, Asymmetric}
use Rattle.flow.specs.Solution.{AsymmetricExactNumbers, flowed, asymmetric}
use Rattle.flow.proofs.OneSide.{more_strain_more_stress, accumulated_injective, grows_past_limit, limit_positive, rests, flows, flow_balances, on_side_same}

pub negated_twice : (x : Frac) → x ≈F neg_f (neg_f x)
negated_twice x = (is_eq (is_own x) (is_negated (is_negated (is_own x)))).1 (omega arith)

negated_order : {x y : Frac} → neg_f x ≤F neg_f y → y ≤F x
negated_order {x} {y} h = at-common (x ∷ y ∷ []) (λ d ((_, _, i), ((_, _, j), _)). (is_le j i).1 (omega (arith, (is_le (is_negated i) (is_negated j)).0 h)))

-- The two sides exchanged, and the signs with them.
pub mirrored : {tension compression : Side} {trial A B stress A' B' : Frac} → Asymmetric tension compression trial A B stress A' B'
    → Asymmetric compression tension (neg_f trial) B A (neg_f stress) B' A'
mirrored {tension} {compression} {trial} {A} {B} {stress} {A'} {B'} s =
    record {
      tension_holds = s.compression_holds;
      compression_holds = on_side_same (negated_twice stress) s.tension_holds;
      plastic =
          at-common (trial ∷ stress ∷ accumulated tension A ∷ accumulated tension A' ∷ accumulated compression B ∷ accumulated compression B' ∷ [])
          (λ d ((_, _, t), ((_, _, q), ((_, _, a), ((_, _, a'), ((_, _, b), ((_, _, b'), _)))))).
          (is_eq (is_sub (is_negated t) (is_negated q)) (is_sub (is_sub b' b) (is_sub a' a))).1
          (omega (arith, (is_eq (is_sub t q) (is_sub (is_sub a' a) (is_sub b' b))).0 s.plastic)));
    }

module _ {tension compression : Side} (curve : Hardens tension) (curve' : Hardens compression) where
  -- SPEC 6.8: not both sides flow.
  pub at_most_one : {trial A B stress A' B' : Frac} → Asymmetric tension compression trial A B stress A' B'
      → accumulated tension A <F accumulated tension A' → ¬ (accumulated compression B <F accumulated compression B')
  at_most_one {stress = stress} {A'} {B'} s l l' =
      at-common (stress ∷ tension.limit A' ∷ compression.limit B' ∷ [])
      (λ d ((_, _, q), ((_, _, r), ((_, _, r'), _))).
      omega (
        arith,
        (is_eq q r).0 (s.tension_holds.at_limit l),
        (is_eq (is_negated q) r').0 (s.compression_holds.at_limit l'),
        (is_lt (is_whole (pos 0) q.some) r).0 (limit_positive curve s.tension_holds.past),
        (is_lt (is_whole (pos 0) q.some) r').0 (limit_positive curve' s.compression_holds.past),
      ))

  module _ {trial A B q A' B' q' A'' B'' : Frac} (s : Asymmetric tension compression trial A B q A' B')
      (s' : Asymmetric tension compression trial A B q' A'' B'') where
    -- Their stress, tension strain and compression strain come to one total, so no one of the three differs alone.
    all_same : q ≤F q' → accumulated tension A' ≤F accumulated tension A'' → accumulated compression B'' ≤F accumulated compression B'
        → (q' ≤F q) × (accumulated tension A'' ≤F accumulated tension A')
    all_same hq ha hb =
        at-common
        (trial ∷ q ∷ q' ∷ accumulated tension A ∷ accumulated tension A' ∷ accumulated tension A'' ∷ accumulated compression B ∷ accumulated compression B' ∷ accumulated compression B'' ∷ [])
        (λ d ((_, _, t), ((_, _, i), ((_, _, i'), ((_, _, a), ((_, _, a'), ((_, _, a''), ((_, _, b), ((_, _, b'), ((_, _, b''), _))))))))).
        let e = (is_eq (is_sub t i) (is_sub (is_sub a' a) (is_sub b' b))).0 s.plastic in
        let e' = (is_eq (is_sub t i') (is_sub (is_sub a'' a) (is_sub b'' b))).0 s'.plastic in
        let k = (is_le i i').0 hq in
        let l = (is_le a' a'').0 ha in
        let m = (is_le b'' b').0 hb in
        ((is_le i' i).1 (omega arith), (is_le a'' a').1 (omega arith)))

    -- A candidate with less stress has no more strain in tension and no less in compression.
    no_less_stress : ¬ (q <F q')
    no_less_stress l =
        <F-not-≤F l
        (all_same (≤F-of-<F l) (≤F-of-not-<F (λ h. <F-not-≤F l (more_strain_more_stress curve s.tension_holds s'.tension_holds h)))
        (≤F-of-not-<F (λ h. <F-not-≤F l (negated_order (more_strain_more_stress curve' s'.compression_holds s.compression_holds h))))).0

  no_more_tension : {trial A B q A' B' q' A'' B'' : Frac} → Asymmetric tension compression trial A B q A' B'
      → Asymmetric tension compression trial A B q' A'' B''
      → q' ≤F q → ¬ (accumulated tension A'' <F accumulated tension A')
  no_more_tension s s' e l =
      let still = ≤F-of-not-<F (at_most_one s (≤F-<F-trans s'.tension_holds.keeps l)) in
      <F-not-≤F l (all_same s' s e (≤F-of-<F l) (≤F-trans still s'.compression_holds.keeps)).1

  same_tension : {trial A B q A' B' q' A'' B'' : Frac} → Asymmetric tension compression trial A B q A' B'
      → Asymmetric tension compression trial A B q' A'' B''
      → (q ≈F q') × (A' ≈F A'')
  same_tension s s' =
      let stress = ≤F-antisym (≤F-of-not-<F (no_less_stress s' s)) (≤F-of-not-<F (no_less_stress s s')) in (
        stress,
        accumulated_injective curve s.tension_holds.past s'.tension_holds.past
            (≤F-antisym (≤F-of-not-<F (no_more_tension s s' (≤F-of-≈F (≈F-sym stress)))) (≤F-of-not-<F (no_more_tension s' s (≤F-of-≈F stress)))),
      )

  -- With no strain in compression the tension side alone carries the trial.
  pub tension_alone : {trial A B q A' B' : Frac} → Asymmetric tension compression trial A B q A' B'
      → ¬ (accumulated compression B <F accumulated compression B')
      → trial ≈F (q +F (accumulated tension A' -F accumulated tension A))
  tension_alone {trial} {A} {B} {q} {A'} {B'} s h =
      at-common (trial ∷ q ∷ accumulated tension A ∷ accumulated tension A' ∷ accumulated compression B ∷ accumulated compression B' ∷ [])
      (λ d ((_, _, t), ((_, _, i), ((_, _, a), ((_, _, a'), ((_, _, b), ((_, _, b'), _)))))).
      (is_eq t (is_add i (is_sub a' a))).1
      (omega (
        arith,
        (is_eq (is_sub t i) (is_sub (is_sub a' a) (is_sub b' b))).0 s.plastic,
        (is_le b b').0 s.compression_holds.keeps,
        (is_le b' b).0 (≤F-of-not-<F h),
      )))

  -- The tension side's plastic strain grows exactly when the trial passes its limit.
  pub tension_grows : {trial A B stress A' B' : Frac} → tension.yield ≤F A → Asymmetric tension compression trial A B stress A' B'
      → (accumulated tension A <F accumulated tension A') ↔ (tension.limit A <F trial)
  tension_grows {trial} {A} {B} {stress = q} {A'} {B'} p s = (
    λ l. (grows_past_limit curve p s.tension_holds (tension_alone s (at_most_one s l))).0 l,
    λ l. (grows_past_limit curve p s.tension_holds (tension_alone s (still l))).1 l,
  )
    where
      -- compression would leave the trial below nought
      still : tension.limit A <F trial → ¬ (accumulated compression B <F accumulated compression B')
      still l g = at-common (trial ∷ q ∷ tension.limit A ∷ compression.limit B' ∷ accumulated tension A ∷ accumulated tension A' ∷ accumulated compression B ∷ accumulated compression B' ∷ [])
          (λ d ((_, _, t), ((_, _, i), ((_, _, m), ((_, _, m'), ((_, _, a), ((_, _, a'), ((_, _, b), ((_, _, b'), _)))))))).
          omega (
            arith,
            (is_eq (is_sub t i) (is_sub (is_sub a' a) (is_sub b' b))).0 s.plastic,
            (is_lt m t).0 l,
            (is_lt b b').0 g,
            (is_eq (is_negated i) m').0 (s.compression_holds.at_limit g),
            (is_le a' a).0 (≤F-of-not-<F (λ k. at_most_one s k g)),
            (is_lt (is_whole (pos 0) t.some) m).0 (limit_positive curve p),
            (is_lt (is_whole (pos 0) t.some) m').0 (limit_positive curve' s.compression_holds.past),
          ))

  -- The trial stays at or below both limits, or passes that of tension.
  pub asymmetric_rests : {trial A B : Frac} → tension.yield ≤F A → compression.yield ≤F B → trial ≤F tension.limit A
      → neg_f trial ≤F compression.limit B
      → Asymmetric tension compression trial A B trial A B
  asymmetric_rests {trial} {A} {B} p p' h h' =
      record {
        tension_holds = rests curve p h;
        compression_holds = rests curve' p' h';
        plastic =
            at-common (trial ∷ accumulated tension A ∷ accumulated compression B ∷ [])
            (λ d ((_, _, t), ((_, _, a), ((_, _, b), _))). (is_eq (is_sub t t) (is_sub (is_sub a a) (is_sub b b))).1 (omega arith));
      }

  pub tension_flows : {trial A B : Frac} → tension.yield ≤F A → compression.yield ≤F B → tension.limit A <F trial
      → let A' = flowed tension trial A in Asymmetric tension compression trial A B (tension.limit A') A' B
  tension_flows {trial} {A} {B} p p' h =
      record {
        tension_holds = on;
        compression_holds = rests curve' p' below;
        plastic =
            at-common (trial ∷ R' ∷ accumulated tension A ∷ accumulated tension A' ∷ accumulated compression B ∷ [])
            (λ d ((_, _, t), ((_, _, r), ((_, _, a), ((_, _, a'), ((_, _, b), _))))).
            (is_eq (is_sub t r) (is_sub (is_sub a' a) (is_sub b b))).1
            (omega (arith, (is_eq t (is_add r (is_sub a' a))).0 (flow_balances curve trial A))));
      }
    where
      A' : Frac
      A' = flowed tension trial A

      R' : Frac
      R' = tension.limit (flowed tension trial A)

      on : OnSide tension A (tension.limit (flowed tension trial A)) (flowed tension trial A)
      on = flows curve p h

      below : neg_f (tension.limit (flowed tension trial A)) ≤F compression.limit B
      below =
          at-common (tension.limit (flowed tension trial A) ∷ compression.limit B ∷ [])
          (λ d ((_, _, r), ((_, _, r'), _)).
          (is_le (is_negated r) r').1
          (omega (
            arith,
            (is_lt (is_whole (pos 0) r.some) r).0 (limit_positive curve on.past),
            (is_lt (is_whole (pos 0) r.some) r').0 (limit_positive curve' p'),
          )))

-- The conditions ask only for the trial's number, whatever its denominator.
asymmetric_same : {tension compression : Side} {trial trial' A B stress A' B' : Frac} → trial ≈F trial'
    → Asymmetric tension compression trial A B stress A' B' → Asymmetric tension compression trial' A B stress A' B'
asymmetric_same {stress = stress} e s =
    record {
      tension_holds = s.tension_holds;
      compression_holds = s.compression_holds;
      plastic = ≈F-trans (sub_same (≈F-sym e) (≈F-refl stress)) s.plastic;
    }

module _ {tension compression : Side} (curve : Hardens tension) (curve' : Hardens compression) where
  pub asymmetric_unique : {trial A B q A' B' q' A'' B'' : Frac}
      → Asymmetric tension compression trial A B q A' B' → Asymmetric tension compression trial A B q' A'' B''
      → (q ≈F q') × (A' ≈F A'') × (B' ≈F B'')
  asymmetric_unique s s' =
      let (stress, tensions) = same_tension curve curve' s s' in
      (stress, tensions, (same_tension curve' curve (mirrored s) (mirrored s')).1)

  pub asymmetric_grows : {trial A B stress A' B' : Frac} → tension.yield ≤F A → compression.yield ≤F B
      → Asymmetric tension compression trial A B stress A' B'
      → ((accumulated tension A <F accumulated tension A') ↔ (tension.limit A <F trial))
      × ((accumulated compression B <F accumulated compression B') ↔ (compression.limit B <F neg_f trial))
  asymmetric_grows p p' s = (tension_grows curve curve' p s, tension_grows curve' curve p' (mirrored s))

  -- The step solves the conditions.
  pub asymmetric_solves : (trial A B : Frac) → tension.yield ≤F A → compression.yield ≤F B
      → let m = asymmetric tension compression trial A B in
      Asymmetric tension compression trial A B m.stress m.tension m.compression
  unfolding asymmetric
  asymmetric_solves trial A B p p' =
      cond_cases solved _ _ _
      (λ e. cond_cases solved _ _ _
      (λ e'. asymmetric_rests curve curve' p p' (le_f_true _ _ e) (le_f_true _ _ e'))
      (λ e'. asymmetric_same (≈F-sym (negated_twice trial)) (mirrored (tension_flows curve' curve p' p (le_f_false _ _ e')))))
      (λ e. tension_flows curve curve' p p' (le_f_false _ _ e))
    where
      solved : AsymmetricExactNumbers → Type 0
      solved m = Asymmetric tension compression trial A B m.stress m.tension m.compression
