-- One side of a curve, on magnitudes (SPEC 6.2, 6.7 to 6.9): what laws 0, 1 and both sides of law 3 share, and law 2 about its centre.
use mathlib.Core.List.{[], ◌∷◌}
use mathlib.Core.Logic.{⊎_elim, ◌↔◌}
use native.Mathlib.Omega.{arith}
use lib.IntN.{pos}
use Rattle.fractions.specs.Fraction.{Frac, ◌≤F◌, ◌<F◌, ◌≈F◌, whole, ◌+F◌, ◌-F◌}
use Rattle.fractions.proofs.Common.{is_whole, is_add, is_sub, is_le, is_lt, is_eq, at-common}
use Rattle.fractions.proofs.Comparison.{≤F-refl, ≤F-trans, <F-≤F-trans, ≤F-<F-trans, ≤F-of-<F, ≤F-of-≈F, ≈F-sym, ≈F-trans, ≈F-refl, ≤F-cases, ≤F-of-not-<F, <F-of-not-≤F, ≤F-antisym, <F-not-≤F}
use Rattle.fractions.proofs.Arithmetic.{sub_same}
use Rattle.flow.specs.Side.{Side, accumulated, Hardens}
use Rattle.flow.specs.Conditions.{OnSide}
use Rattle.flow.specs.Solution.{flowed}

module _ {side : Side} (curve : Hardens side) where
  pub accumulated_same : {x y : Frac} → x ≈F y → accumulated side x ≈F accumulated side y
  accumulated_same e = sub_same e (curve.respects e)

  pub accumulated_mono : {x y : Frac} → side.yield ≤F x → x ≤F y → accumulated side x ≤F accumulated side y
  accumulated_mono p h = ⊎_elim (λ l. ≤F-of-<F (curve.gentle p l)) (λ e. ≤F-of-≈F (accumulated_same e)) (≤F-cases h)

  -- More plastic strain, a greater abscissa.
  pub accumulated_reflects : {x y : Frac} → side.yield ≤F y → accumulated side x <F accumulated side y → x <F y
  accumulated_reflects p h = <F-of-not-≤F (λ l. <F-not-≤F h (accumulated_mono p l))

  pub accumulated_injective : {x y : Frac} → side.yield ≤F x → side.yield ≤F y → accumulated side x ≈F accumulated side y → x ≈F y
  accumulated_injective p q e =
      ≤F-antisym (≤F-of-not-<F (λ l. <F-not-≤F (curve.gentle q l) (≤F-of-≈F e)))
      (≤F-of-not-<F (λ l. <F-not-≤F (curve.gentle p l) (≤F-of-≈F (≈F-sym e))))

  pub limit_positive : {x : Frac} → side.yield ≤F x → whole (pos 0) <F side.limit x
  limit_positive p = <F-≤F-trans (<F-≤F-trans curve.positive (≤F-of-≈F (≈F-sym curve.starts))) (curve.rises (≤F-refl side.yield) p)

  module _ {A q B q' B' : Frac} (h : OnSide side A q B) (h' : OnSide side A q' B') where
    -- Of two candidates on one side the one with more plastic strain has no less stress.
    pub more_strain_more_stress : accumulated side B' <F accumulated side B → q' ≤F q
    more_strain_more_stress l =
        ≤F-trans h'.inside
        (≤F-trans (curve.rises h'.past (≤F-of-<F (accumulated_reflects h.past l)))
        (≤F-of-≈F (≈F-sym (h.at_limit (≤F-<F-trans h'.keeps l)))))

    -- Two candidates whose stress and growth of plastic strain come to the same trial have the same plastic strain,
    no_more_strain : (q +F (accumulated side B -F accumulated side A)) ≈F (q' +F (accumulated side B' -F accumulated side A))
        → ¬ (accumulated side B' <F accumulated side B)
    no_more_strain e l =
        at-common (q ∷ q' ∷ accumulated side A ∷ accumulated side B ∷ accumulated side B' ∷ [])
        (λ d ((_, _, i), ((_, _, i'), ((_, _, a), ((_, _, b), ((_, _, b'), _))))).
        omega (arith, (is_le i' i).0 (more_strain_more_stress l), (is_lt b' b).0 l, (is_eq (is_add i (is_sub b a)) (is_add i' (is_sub b' a))).0 e))

  -- and so they are the same.
  pub one_side_unique : {A q B q' B' : Frac} → OnSide side A q B → OnSide side A q' B'
      → (q +F (accumulated side B -F accumulated side A)) ≈F (q' +F (accumulated side B' -F accumulated side A)) → (q ≈F q') × (B ≈F B')
  one_side_unique {A} {q} {B} {q'} {B'} h h' e =
      let strain : accumulated side B ≈F accumulated side B' =
      ≤F-antisym (≤F-of-not-<F (no_more_strain h h' e)) (≤F-of-not-<F (no_more_strain h' h (≈F-sym e))) in (
        at-common (q ∷ q' ∷ accumulated side A ∷ accumulated side B ∷ accumulated side B' ∷ [])
            (λ d ((_, _, i), ((_, _, i'), ((_, _, a), ((_, _, b), ((_, _, b'), _))))).
            (is_eq i i').1 (omega (arith, (is_eq b b').0 strain, (is_eq (is_add i (is_sub b a)) (is_add i' (is_sub b' a))).0 e))),
        accumulated_injective h.past h'.past strain,
      )

  -- SPEC 6.8: p grows exactly where the trial passes the limit, and a trial at the limit doesn't.
  pub grows_past_limit : {trial A q B : Frac} → side.yield ≤F A → OnSide side A q B → trial ≈F (q +F (accumulated side B -F accumulated side A))
      → (accumulated side A <F accumulated side B) ↔ (side.limit A <F trial)
  grows_past_limit {trial} {A} {q} {B} p h e = (passes, grows)
    where
      passes : accumulated side A <F accumulated side B → side.limit A <F trial
      passes l =
          let before : side.limit A ≤F q = ≤F-trans (curve.rises p (≤F-of-<F (accumulated_reflects h.past l)))
          (≤F-of-≈F (≈F-sym (h.at_limit l))) in
          at-common (trial ∷ q ∷ side.limit A ∷ accumulated side A ∷ accumulated side B ∷ [])
          (λ d ((_, _, t), ((_, _, i), ((_, _, m), ((_, _, a), ((_, _, b), _))))).
          (is_lt m t).1 (omega (arith, (is_le m i).0 before, (is_lt a b).0 l, (is_eq t (is_add i (is_sub b a))).0 e)))

      grows : side.limit A <F trial → accumulated side A <F accumulated side B
      grows l = <F-of-not-≤F (λ g. at_rest l (≤F-antisym g h.keeps))
        where
          at_rest : side.limit A <F trial → ¬ (accumulated side B ≈F accumulated side A)
          at_rest l strain =
              let within : q ≤F side.limit A = ≤F-trans h.inside (≤F-of-≈F (curve.respects (accumulated_injective h.past p strain))) in
              at-common (trial ∷ q ∷ side.limit A ∷ accumulated side A ∷ accumulated side B ∷ [])
              (λ d ((_, _, t), ((_, _, i), ((_, _, m), ((_, _, a), ((_, _, b), _))))).
              omega (arith, (is_le i m).0 within, (is_lt m t).0 l, (is_eq b a).0 strain, (is_eq t (is_add i (is_sub b a))).0 e))

  -- At or below the limit the side may stay where it is.
  pub rests : {A q : Frac} → side.yield ≤F A → q ≤F side.limit A → OnSide side A q A
  rests {A} p h = record {
    past = p;
    inside = h;
    keeps = ≤F-refl (accumulated side A);
    at_limit = λ l. absurd (<F-not-≤F l (≤F-refl (accumulated side A)));
  }

  -- Past the limit it flows by the excess.
  pub flows : {trial A : Frac} → side.yield ≤F A → side.limit A <F trial
      → OnSide side A (side.limit (flowed side trial A)) (flowed side trial A)
  flows {trial} {A} p l =
      record {
        past = ≤F-trans p (≤F-of-<F further);
        inside = ≤F-refl (side.limit B);
        keeps = ≤F-of-<F (curve.gentle p further);
        at_limit = λ g. ≈F-refl (side.limit B);
      }
    where
      B : Frac
      B = flowed side trial A

      further : A <F flowed side trial A
      further =
          at-common (trial ∷ A ∷ side.limit A ∷ [])
          (λ d ((_, _, t), ((_, _, a), ((_, _, m), _))). (is_lt a (is_add a (is_sub t m))).1 (omega (arith, (is_lt m t).0 l)))

  -- Its stress and the growth of plastic strain come to the trial.
  pub flow_balances : (trial A : Frac)
      → trial ≈F (side.limit (flowed side trial A) +F (accumulated side (flowed side trial A) -F accumulated side A))
  flow_balances trial A =
      at-common (trial ∷ A ∷ side.limit A ∷ side.limit (flowed side trial A) ∷ [])
      (λ d ((_, _, t), ((_, _, a), ((_, _, m), ((_, _, r), _)))).
      (is_eq t (is_add r (is_sub (is_sub (is_add a (is_sub t m)) r) (is_sub a m)))).1 (omega arith))

-- The conditions of one side ask only for the number, whatever the denominator.
pub on_side_same : {side : Side} {A q q' B : Frac} → q ≈F q' → OnSide side A q B → OnSide side A q' B
on_side_same e h =
    record {
      past = h.past;
      inside = ≤F-trans (≤F-of-≈F (≈F-sym e)) h.inside;
      keeps = h.keeps;
      at_limit = λ l. ≈F-trans (≈F-sym e) (h.at_limit l);
    }

pub growth_not_negative : {side : Side} {A q B : Frac} → OnSide side A q B → whole (pos 0) ≤F (accumulated side B -F accumulated side A)
growth_not_negative {side} {A} {q} {B} h =
    at-common (accumulated side A ∷ accumulated side B ∷ [])
    (λ d ((_, _, a), ((_, _, b), _)). (is_le (is_whole (pos 0) a.some) (is_sub b a)).1 (omega (arith, (is_le a b).0 h.keeps)))
