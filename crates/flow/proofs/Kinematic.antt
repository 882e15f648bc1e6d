-- Law 2 (SPEC 6.4, 6.7 to 6.9): the conditions have a solution and no other, it is the step of the bar without rounding, and plastic strain
-- grows exactly when the trial passes the radius. About its centre the law is one side of a flat curve: with u = stress - X' and v = trial
-- - X, v - u is E / (E - tangent) times the growth, with the sign of u, so that |v| = |u| + that growth.
use mathlib.Core.Path.{◌≡◌, ap}
use mathlib.Core.List.{[], ◌∷◌}
use mathlib.Core.Logic.{◌↔◌}
use Prim.Native.Nat.{ℕ, ◌+◌, ◌-◌, ◌*◌, ◌≤◌, ◌<◌}
use native.Mathlib.Nat.{sub-pos_iff_lt}
use native.Mathlib.Decide.{dec_le}
use native.Mathlib.Omega.{arith}
use lib.IntN.{pos}
use Rattle.fractions.specs.Fraction.{Frac, ◌≤F◌, ◌<F◌, ◌≈F◌, whole, ◌+F◌, ◌-F◌, abs_f, signed_f, times_f}
use Rattle.fractions.proofs.Common.{Is, is_whole, is_scale, is_add, is_sub, is_abs, is_abs_up, is_abs_dn, is_signed_up, is_signed_dn, is_times, is_le, is_lt, is_eq, at-common}
use Rattle.fractions.proofs.Comparison.{≤F-refl, ≤F-of-<F, ≤F-of-≈F, ≈F-sym, ≈F-trans, ≈F-refl, le_f_true, le_f_false}
use Rattle.fractions.proofs.Cases.{cond_cases}
use Rattle.fractions.proofs.Arithmetic.{add_same, sub_same, abs_same, add_then_sub, times_times, add_injective, sub_injective, signed_same, times_same, times_not_negative, times_positive, times_injective}
use Rattle.fractions.proofs.Signs.{abs_signed, abs_not_negative, nought_signed, signed_signed, like_signs_abs, like_signs_sign, times_signed}
use Rattle.flow.specs.Side.{Side, accumulated, Hardens}
use Rattle.flow.specs.Conditions.{OnSide, Kinematic}
use Rattle.flow.specs.Solution.{ExactNumbers, kinematic}
use Rattle.flow.proofs.OneSide.{one_side_unique, grows_past_limit}

-- A limit that never rises.
abbrev flat : Frac → Side
flat yield = record { yield = yield; limit = λ A. yield }

flat_hardens : {yield : Frac} → whole (pos 0) <F yield → Hardens (flat yield)
flat_hardens {yield} h =
    record {
      respects = λ e. ≈F-refl yield;
      positive = h;
      starts = ≈F-refl yield;
      rises = λ p l. ≤F-refl yield;
      gentle = λ {x} {y} p l. at-common (yield ∷ x ∷ y ∷ [])
          (λ d ((_, _, r), ((_, _, i), ((_, _, j), _))). (is_lt (is_sub i r) (is_sub j r)).1 (omega (arith, (is_lt i j).0 l)));
    }

-- On it the plastic strain grows by what the abscissa does.
module _ (yield w : Frac) where
  flat_strain : (accumulated (flat yield) (yield +F w) -F accumulated (flat yield) yield) ≈F w
  flat_strain = at-common (yield ∷ w ∷ []) (λ d ((_, _, r), ((_, _, i), _)). (is_eq (is_sub (is_sub (is_add r i) r) (is_sub r r)) i).1 (omega arith))

  flat_grows : (accumulated (flat yield) yield <F accumulated (flat yield) (yield +F w)) ↔ (whole (pos 0) <F w)
  flat_grows = (
    λ l. at-common (yield ∷ w ∷ [])
        (λ d ((_, _, r), ((_, _, i), _)). (is_lt (is_whole (pos 0) r.some) i).1
        (omega (arith, (is_lt (is_sub r r) (is_sub (is_add r i) r)).0 l))),
    λ l. at-common (yield ∷ w ∷ [])
        (λ d ((_, _, r), ((_, _, i), _)). (is_lt (is_sub r r) (is_sub (is_add r i) r)).1
        (omega (arith, (is_lt (is_whole (pos 0) r.some) i).0 l))),
  )

  flat_keeps : whole (pos 0) ≤F w → (yield ≤F (yield +F w)) × (accumulated (flat yield) yield ≤F accumulated (flat yield) (yield +F w))
  flat_keeps l =
      at-common (yield ∷ w ∷ [])
      (λ d ((_, _, r), ((_, _, i), _)).
      let h = (is_le (is_whole (pos 0) r.some) i).0 l in
      ((is_le r (is_add r i)).1 (omega arith), (is_le (is_sub r r) (is_sub (is_add r i) r)).1 (omega arith)))

-- The trial and the new stress, each about its own centre, differ by E / k times what plastic strain changes by; k is E - tangent.
relative_change : (t : ℕ) {E k : ℕ} (h : 0 < k) → k + t ≡ E → (trial X stress X' : Frac) → (X' -F X) ≈F times_f (trial -F stress) t k h
    → ((trial -F X) -F (stress -F X')) ≈F times_f (trial -F stress) E k h
relative_change t {E} {k} h e trial X stress X' c =
    at-common (trial ∷ X ∷ stress ∷ X' ∷ [])
    (λ d ((a, b, i), ((_, _, x), ((a', b', q), ((_, _, x'), _)))).
    (is_eq (is_sub (is_sub (is_scale k h i) (is_scale k h x)) (is_sub (is_scale k h q) (is_scale k h x'))) (is_times E k h (is_sub i q))).1
    (omega (
      arith,
      (is_eq (is_sub (is_scale k h x') (is_scale k h x)) (is_times t k h (is_sub i q))).0 c,
      ap (λ (n : ℕ). n * (a + b')) e,
      ap (λ (n : ℕ). n * (b + a')) e,
    )))

-- Past the radius the stress lies k / E of the excess beyond the new one, on the side of the trial.
stress_rest : (t k : ℕ) {E : ℕ} (h : 0 < E) → k + t ≡ E → (yield trial X : Frac)
    → let v = trial -F X in let e = abs_f v -F yield in
    (trial -F (X +F signed_f v (times_f e t E h) +F signed_f v yield)) ≈F signed_f v (times_f e k E h)
stress_rest t k {E} h e yield trial X =
    at-common (trial ∷ X ∷ yield ∷ []) (λ d ((a, b, i), ((x, x', j), ((r, r', l), _))). go a b x x' r r' d i j l (dec_le (b + x) (a + x')))
  where
    go : (a b x x' r r' d : ℕ) → Is trial a b d → Is X x x' d → Is yield r r' d → Dec (b + x ≤ a + x')
        → (trial -F (X +F signed_f (trial -F X) (times_f (abs_f (trial -F X) -F yield) t E h) +F signed_f (trial -F X) yield))
        ≈F signed_f (trial -F X) (times_f (abs_f (trial -F X) -F yield) k E h)
    go a b x x' r r' d i j l (yes m) =
        let u = is_sub i j in
        let excess = is_sub (is_abs_up u m) l in
        (is_eq (is_sub (is_scale E h i) (is_add (is_add (is_scale E h j) (is_signed_up u m (is_times t E h excess)))
        (is_signed_up u m (is_scale E h l))))
        (is_signed_up u m (is_times k E h excess))).1
        (omega (arith, ap (λ (n : ℕ). n * (a + x' + r')) e, ap (λ (n : ℕ). n * (b + x + r)) e))
    go a b x x' r r' d i j l (no m) =
        let u = is_sub i j in
        let below : a + x' < b + x = omega arith in
        let excess = is_sub (is_abs_dn u below) l in
        (is_eq (is_sub (is_scale E h i) (is_add (is_add (is_scale E h j) (is_signed_dn u below (is_times t E h excess)))
        (is_signed_dn u below (is_scale E h l))))
        (is_signed_dn u below (is_times k E h excess))).1
        (omega (arith, ap (λ (n : ℕ). n * (b + x + r')) e, ap (λ (n : ℕ). n * (a + x' + r)) e))

module _ {E tangent : ℕ} {below : tangent < E} {yield trial X stress X' growth : Frac}
    (s : Kinematic E tangent below yield trial X stress X' growth) where
  -- The growth about the centre: E / (E - tangent) times that of p.
  abbrev pub wider : Frac
  wider = times_f growth E (E - tangent) (sub-pos_iff_lt.1 below)

  pub wider_not_negative : whole (pos 0) ≤F wider
  wider_not_negative = times_not_negative growth E (E - tangent) (sub-pos_iff_lt.1 below) s.keeps

  pub signs_agree : ((trial -F X) -F (stress -F X')) ≈F signed_f (stress -F X') wider
  signs_agree =
      let k = sub-pos_iff_lt.1 below in
      ≈F-trans (relative_change tangent k (omega arith) trial X stress X' s.centre)
      (≈F-trans (times_same E (E - tangent) k s.plastic) (times_signed (stress -F X') growth E (E - tangent) k))

  -- About the centre: one side of a flat curve, from the abscissa yield to yield + wider.
  on_flat : OnSide (flat yield) yield (abs_f (stress -F X')) (yield +F wider)
  on_flat =
      record {
        past = (flat_keeps yield wider wider_not_negative).0;
        inside = s.inside;
        keeps = (flat_keeps yield wider wider_not_negative).1;
        at_limit = λ l. s.at_limit ((times_positive growth E (E - tangent) (sub-pos_iff_lt.1 below) (omega arith)).0 ((flat_grows yield wider).0 l));
      }

  balances : abs_f (trial -F X) ≈F (abs_f (stress -F X') +F (accumulated (flat yield) (yield +F wider) -F accumulated (flat yield) yield))
  balances =
      ≈F-trans (like_signs_abs (trial -F X) (stress -F X') wider_not_negative signs_agree)
      (add_same (≈F-refl (abs_f (stress -F X'))) (≈F-sym (flat_strain yield wider)))

  -- The new stress lies on the trial's side of the centre.
  side_of_trial : (stress -F X') ≈F signed_f (trial -F X) (abs_f (stress -F X'))
  side_of_trial = like_signs_sign (trial -F X) (stress -F X') wider_not_negative signs_agree

module _ {E tangent : ℕ} {below : tangent < E} {yield : Frac} (positive : whole (pos 0) <F yield) where
  pub kinematic_grows : {trial X stress X' growth : Frac} → Kinematic E tangent below yield trial X stress X' growth
      → (whole (pos 0) <F growth) ↔ (yield <F abs_f (trial -F X))
  kinematic_grows {growth = growth} s =
      let factor = times_positive growth E (E - tangent) (sub-pos_iff_lt.1 below) (omega arith) in
      let passes = grows_past_limit (flat_hardens positive) (≤F-refl yield) (on_flat s) (balances s) in
      (λ l. passes.0 ((flat_grows yield (wider s)).1 (factor.1 l)), λ l. factor.0 ((flat_grows yield (wider s)).0 (passes.1 l)))

  pub kinematic_unique : {trial X stress X' growth stress' X'' growth' : Frac}
      → Kinematic E tangent below yield trial X stress X' growth → Kinematic E tangent below yield trial X stress' X'' growth'
      → (stress ≈F stress') × (X' ≈F X'') × (growth ≈F growth')
  kinematic_unique {trial} {X} {stress} {X'} {growth} {stress'} {X''} {growth'} s s' = (stresses, centres, growths)
    where
      same : (abs_f (stress -F X') ≈F abs_f (stress' -F X'')) × ((yield +F wider s) ≈F (yield +F wider s'))
      same = one_side_unique (flat_hardens positive) (on_flat s) (on_flat s') (≈F-trans (≈F-sym (balances s)) (balances s'))

      growths : growth ≈F growth'
      growths = times_injective growth growth' E (E - tangent) (sub-pos_iff_lt.1 below) (omega arith)
          (add_injective yield (wider s) (wider s') same.1)

      relative : (stress -F X') ≈F (stress' -F X'')
      relative = ≈F-trans (side_of_trial s) (≈F-trans (signed_same (≈F-refl (trial -F X)) same.0) (≈F-sym (side_of_trial s')))

      stresses : stress ≈F stress'
      stresses = sub_injective trial stress stress' (≈F-trans s.plastic (≈F-trans (signed_same relative growths) (≈F-sym s'.plastic)))

      centres : X' ≈F X''
      centres = sub_injective stress X' X'' (≈F-trans relative (sub_same (≈F-sym stresses) (≈F-refl X'')))

  pub kinematic_rests : {trial X : Frac} → abs_f (trial -F X) ≤F yield → Kinematic E tangent below yield trial X trial X (abs_f (trial -F trial))
  kinematic_rests {trial} {X} h =
      record {
        inside = h;
        keeps = abs_not_negative (trial -F trial);
        at_limit = λ l. absurd (at-common (trial ∷ [])
            (λ d ((_, _, t), _). omega (arith, (is_lt (is_whole (pos 0) t.some) (is_abs (is_sub t t))).0 l)));
        plastic = ≈F-trans (nought_signed (trial -F X) trial trial) (signed_same (≈F-refl (trial -F X)) nought);
        centre = at-common (trial ∷ X ∷ [])
            (λ d ((_, _, t), ((_, _, x), _)). (is_eq (is_sub (is_scale (E - tangent) k x) (is_scale (E - tangent) k x))
            (is_times tangent (E - tangent) k (is_sub t t))).1 (omega arith));
      }
    where
      k : 0 < E - tangent
      k = sub-pos_iff_lt.1 below

      nought : (trial -F trial) ≈F abs_f (trial -F trial)
      nought = at-common (trial ∷ []) (λ d ((_, _, t), _). (is_eq (is_sub t t) (is_abs (is_sub t t))).1 (omega arith))

  pub kinematic_flows : {trial X : Frac} (h : 0 < E) → yield <F abs_f (trial -F X)
      → let v = trial -F X in let X' = X +F signed_f v (times_f (abs_f v -F yield) tangent E h) in let stress = X' +F signed_f v yield in
      Kinematic E tangent below yield trial X stress X' (abs_f (trial -F stress))
  kinematic_flows {trial} {X} h l =
      record {
        inside = ≤F-of-≈F radius;
        keeps = abs_not_negative (trial -F stress);
        at_limit = λ g. radius;
        plastic = ≈F-trans rest (≈F-sym (≈F-trans (signed_same relative magnitude) (signed_signed v w positive)));
        centre =
            ≈F-trans (add_then_sub X (signed_f v (times_f e tangent E h)))
            (≈F-sym (≈F-trans (times_same tangent (E - tangent) k rest)
            (≈F-trans (times_signed v w tangent (E - tangent) k) (signed_same (≈F-refl v) (times_times e tangent (E - tangent) E k h)))));
      }
    where
      k : 0 < E - tangent
      k = sub-pos_iff_lt.1 below

      v : Frac
      v = trial -F X

      e : Frac
      e = abs_f v -F yield

      w : Frac
      w = times_f e (E - tangent) E h

      X' : Frac
      X' = X +F signed_f v (times_f e tangent E h)

      stress : Frac
      stress = X' +F signed_f v yield

      relative : (stress -F X') ≈F signed_f v yield
      relative = add_then_sub X' (signed_f v yield)

      radius : abs_f (stress -F X') ≈F yield
      radius = ≈F-trans (abs_same relative) (abs_signed v (≤F-of-<F positive))

      rest : (trial -F stress) ≈F signed_f v w
      rest = stress_rest tangent (E - tangent) h (omega arith) yield trial X

      excess : whole (pos 0) ≤F e
      excess = at-common (abs_f v ∷ yield ∷ [])
          (λ d ((_, _, i), ((_, _, r), _)). (is_le (is_whole (pos 0) i.some) (is_sub i r)).1 (omega (arith, (is_lt r i).0 l)))

      magnitude : abs_f (trial -F stress) ≈F w
      magnitude = ≈F-trans (abs_same rest) (abs_signed v (times_not_negative e (E - tangent) E h excess))

  -- The step solves the conditions; p grows by the magnitude of what plastic strain changes by.
  pub kinematic_solves : (h : 0 < E) (trial X : Frac)
      → let m = kinematic E tangent h yield trial X in
      Kinematic E tangent below yield trial X m.stress m.variable (abs_f (trial -F m.stress))
  unfolding kinematic
  kinematic_solves h trial X =
      cond_cases (λ (m : ExactNumbers). Kinematic E tangent below yield trial X m.stress m.variable (abs_f (trial -F m.stress))) _ _ _
      (λ e. kinematic_rests (le_f_true _ _ e)) (λ e. kinematic_flows h (le_f_false _ _ e))
