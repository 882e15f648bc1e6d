-- SPEC 11.8 under law 3: a pair keeps the stored rod within k of the bar, where k counts the pairs that yielded. A trial that is negative
-- is one that is not, with the two sides exchanged.
use mathlib.Core.List.{[], ◌∷◌}
use mathlib.Core.Logic.{◌⊎◌, inl, inr, ⊎_elim}
use Prim.Native.Nat.{ℕ, suc, ◌+◌}
use native.Mathlib.Nat.{add-zero}
use native.Mathlib.Omega.{arith}
use lib.IntN.{ℤ, pos, negsuc, neg_ℤ, ◌+ℤ◌}
use Rattle.fractions.specs.Fraction.{Frac, ◌≤F◌, ◌<F◌, ◌≈F◌, whole, ◌+F◌, neg_f, Within}
use Rattle.fractions.proofs.Common.{is_same, is_whole, is_whole_one, is_add, is_negated, is_le, is_lt, at-common}
use Rattle.fractions.proofs.Comparison.{≤F-of-<F, ≤F-of-≈F, ≤F-trans, <F-≤F-trans, ≤F-or-<F, ≈F-refl, ≈F-sym, le_f_true, le_f_false}
use Rattle.fractions.proofs.Cases.{cond_cases}
use Rattle.fractions.proofs.Arithmetic.{is_within, whole_neg, within_sym, within_same, within_weaken, within_add, within_neg}
use Rattle.bits.specs.Field.{flag}
use Rattle.flow.specs.Side.{Side, Hardens, Flattens}
use Rattle.flow.specs.Solution.{AsymmetricExactNumbers, flowed, asymmetric}
use Rattle.flow.specs.Rounded.{LimitRounded}
use Rattle.flow.specs.Stored.{SideStored, side_stored, asymmetric_stored}
use Rattle.flow.proofs.OneSide.{limit_positive}
use Rattle.flow.proofs.Asymmetric.{negated_twice}
use Rattle.accuracy.proofs.Close.{LimitClose, AsymmetricClose}
use Rattle.accuracy.proofs.Move.{Move}
use Rattle.accuracy.proofs.Magnitudes.{same_signs, limits_apart, stays_past, no_more_than_trial, trial_small, exact_trial_small, magnitudes_small}
use Rattle.accuracy.proofs.Moving.{exact_flows, stored_move}

-- The bar under a trial that is not negative: the tension side may move, the compression side does not.
record ExactUp (tension compression : Side) (trial A B stress A' B' : Frac) : Type 0 where
  trial_up : whole (pos 0) ≤F trial
  stress_up : whole (pos 0) ≤F stress
  move : Move tension 0 trial A stress A'
  other : B' ≈F B

module _ {tension compression : Side} (curve : Hardens tension) (curve' : Hardens compression) {trial A B : Frac} (p : tension.yield ≤F A)
    (p' : compression.yield ≤F B) where
  up_rests : whole (pos 0) ≤F trial → trial ≤F tension.limit A → ExactUp tension compression trial A B trial A B
  up_rests l h =
      record {
        trial_up = l;
        stress_up = l;
        move = inl (record { within = h; magnitude = ≈F-refl trial; abscissa = ≈F-refl A });
        other = ≈F-refl B;
      }

  up_flows : whole (pos 0) ≤F trial → tension.limit A <F trial → ExactUp tension compression trial A B
      (tension.limit (flowed tension trial A)) (flowed tension trial A) B
  up_flows l h =
      record {
        trial_up = l;
        stress_up = ≤F-of-<F (limit_positive curve (stays_past curve p (inr (exact_flows curve p h))));
        move = inr (exact_flows curve p h);
        other = ≈F-refl B;
      }

-- Either sign of the bar's trial; `Down` is `ExactUp` with the sides exchanged.
record ExactDown (tension compression : Side) (trial A B stress A' B' : Frac) : Type 0 where
  trial_down : Frac
  stress_down : Frac
  trial_negated : trial_down ≈F neg_f trial
  stress_negated : stress_down ≈F neg_f stress
  up : ExactUp compression tension trial_down B A stress_down B' A'

abbrev Exact : (tension compression : Side) (trial A B stress A' B' : Frac) → Type 0
Exact tension compression trial A B stress A' B' = ExactUp tension compression trial A B stress A' B' ⊎ ExactDown tension compression trial A B stress A' B'

positive_side : {x y : Frac} → whole (pos 0) <F x → x <F y → whole (pos 0) ≤F y
positive_side h l = ≤F-of-<F (<F-≤F-trans h (≤F-of-<F l))

exact_cases : {tension compression : Side} → Hardens tension → Hardens compression → (trial A B : Frac) → tension.yield ≤F A
    → compression.yield ≤F B
    → let m = asymmetric tension compression trial A B in Exact tension compression trial A B m.stress m.tension m.compression
unfolding asymmetric
exact_cases {tension} {compression} curve curve' trial A B p p' =
    cond_cases case _ _ _
    (λ e. cond_cases case _ _ _
    (λ e'. ⊎_elim (λ s. inl (up_rests curve curve' p p' s (le_f_true _ _ e))) (λ s. inr (rests_down s (le_f_true _ _ e')))
    (≤F-or-<F (whole (pos 0)) trial))
    (λ e'. inr (flows_down (le_f_false _ _ e'))))
    (λ e. let h = le_f_false _ _ e in inl (up_flows curve curve' p p' (positive_side (limit_positive curve p) h) h))
  where
    case : AsymmetricExactNumbers → Type 0
    case m = Exact tension compression trial A B m.stress m.tension m.compression

    rests_down : trial <F whole (pos 0) → neg_f trial ≤F compression.limit B → ExactDown tension compression trial A B trial A B
    rests_down s h =
        record {
          trial_down = neg_f trial;
          stress_down = neg_f trial;
          trial_negated = ≈F-refl (neg_f trial);
          stress_negated = ≈F-refl (neg_f trial);
          up = up_rests curve' curve p' p up h;
        }
      where
        up : whole (pos 0) ≤F neg_f trial
        up = at-common (trial ∷ []) (λ d ((_, _, i), _). let zero = is_whole (pos 0) i.some in (is_le zero (is_negated i)).1
            (omega (arith, (is_lt i zero).0 s)))

    flows_down : compression.limit B <F neg_f trial
        → let B' = flowed compression (neg_f trial) B in ExactDown tension compression trial A B (neg_f (compression.limit B')) A B'
    flows_down h =
        record {
          trial_down = neg_f trial;
          stress_down = compression.limit (flowed compression (neg_f trial) B);
          trial_negated = ≈F-refl (neg_f trial);
          stress_negated = negated_twice (compression.limit (flowed compression (neg_f trial) B));
          up = up_flows curve' curve p' p (positive_side (limit_positive curve' p') h) h;
        }

-- A side that the other one's trial leaves as it was.
limit_kept : {side : Side} → Hardens side → {k : ℕ} (g : ℕ) {A : ℕ} {exact exact' : Frac} → exact' ≈F exact → LimitClose side k A exact
    → LimitClose side (k + g) A exact'
limit_kept {side} curve g {A} e c =
    record {
      past = c.past;
      exact_past = ≤F-trans c.exact_past (≤F-of-≈F (≈F-sym e));
      close = within_weaken (within_same c.close (≈F-refl (side.limit (whole (pos A)))) (curve.respects (≈F-sym e))) g;
    }

-- Stress and both limits after a pair, the stored trial of magnitude m not negative.
abbrev UpClose : (tension compression : Side) (k : ℕ) (stored : SideStored) (B : ℕ) (stress A' B' : Frac) → Type 0
UpClose tension compression k stored B stress A' B' =
    Within (k + flag stored.yielded) (whole (pos stored.magnitude)) stress
    × LimitClose tension (k + flag stored.yielded) stored.abscissa A'
    × LimitClose compression (k + flag stored.yielded) B B'

module _ {tension compression : Side} (curve : Hardens tension) (curve' : Hardens compression) (flat : Flattens tension) {limit : ℕ → ℕ}
    (floor : (a : ℕ) → LimitRounded tension (pos a) (limit a)) (m : ℕ) {A B k : ℕ} {trial exact-A exact-B stress A' B' : Frac}
    (near : Within k (whole (pos m)) trial) (c : LimitClose tension k A exact-A) (c' : LimitClose compression k B exact-B) where
  both_up : ExactUp tension compression trial exact-A exact-B stress A' B' → UpClose tension compression k (side_stored limit m A) B stress A' B'
  both_up e =
      let move = stored_move curve floor A m c.past in
      let (stresses, limits) = same_signs curve flat c.past c.exact_past move e.move near c.close in (
        stresses,
        record { past = stays_past curve c.past move; exact_past = stays_past curve c.exact_past e.move; close = limits },
        limit_kept curve' (flag (side_stored limit m A).yielded) e.other c',
      )

  up_and_down : ExactDown tension compression trial exact-A exact-B stress A' B' → UpClose tension compression k (side_stored limit m A) B stress A' B'
  up_and_down e =
      let limits = limits_apart curve c.past c.exact_past move (trial_small k g sum e.up.trial_up) c.close in
      let limits' = limits_apart curve' c'.exact_past c'.past e.up.move
      (rw add-zero at (exact_trial_small k 0 sum (not_negative m))) (within_sym c'.close) in (
        stresses,
        record {
          past = stays_past curve c.past move;
          exact_past = ≤F-trans c.exact_past (≤F-of-≈F (≈F-sym e.up.other));
          close = within_same limits (≈F-refl (tension.limit (whole (pos (side_stored limit m A).abscissa))))
              (curve.respects (≈F-sym e.up.other));
        },
        record {
          past = c'.past;
          exact_past = stays_past curve' c'.exact_past e.up.move;
          close = within_weaken (within_sym (rw add-zero at limits')) g;
        },
      )
    where
      g : ℕ
      g = flag (side_stored limit m A).yielded

      mag : ℕ
      mag = (side_stored limit m A).magnitude

      move : Move tension g (whole (pos m)) (whole (pos A)) (whole (pos mag)) (whole (pos (side_stored limit m A).abscissa))
      move = stored_move curve floor A m c.past

      not_negative : (n : ℕ) → whole (pos 0) ≤F whole (pos n)
      not_negative n = (is_le (is_whole_one (pos 0)) (is_whole_one (pos n))).1 (omega arith)

      sum : (whole (pos m) +F e.trial_down) ≤F whole (pos k)
      sum =
          at-common (whole (pos m) ∷ trial ∷ [])
          (λ d ((_, _, i), ((_, _, t), _)).
          (is_le (is_add i (is_same (≈F-sym e.trial_negated) (is_negated t))) (is_whole (pos k) i.some)).1 (omega (arith, (is_within k i t).0 near)))

      stresses : Within (k + g) (whole (pos mag)) stress
      stresses =
          at-common (whole (pos mag) ∷ stress ∷ [])
          (λ d ((_, _, i), ((_, _, q), _)).
          let j = is_same (≈F-sym e.stress_negated) (is_negated q) in
          let n = is_whole (pos (k + g)) i.some in
          let h = (is_le (is_add i j) n).0 (magnitudes_small k g sum (no_more_than_trial move) (no_more_than_trial e.up.move)) in
          let zero = is_whole (pos 0) i.some in
          let up = (is_le zero j).0 e.up.stress_up in
          let up' = (is_le zero i).0 (not_negative mag) in
          (is_within (k + g) i q).1 (record { above = omega arith; below = omega arith }))

module _ {tension compression : Side} (curve : Hardens tension) (curve' : Hardens compression) (flat : Flattens tension)
    (flat' : Flattens compression)
    {limit_t limit_c : ℕ → ℕ} (floor_t : (a : ℕ) → LimitRounded tension (pos a) (limit_t a)) (floor_c : (a : ℕ) → LimitRounded compression (pos a) (limit_c a))
    {k A B : ℕ} {trial exact-A exact-B stress A' B' : Frac} (c : LimitClose tension k A exact-A) (c' : LimitClose compression k B exact-B)
    (e : Exact tension compression trial exact-A exact-B stress A' B') where
  up_close : (m : ℕ) → Within k (whole (pos m)) trial → UpClose tension compression k (side_stored limit_t m A) B stress A' B'
  up_close m near = ⊎_elim (both_up curve curve' flat floor_t m near c c') (up_and_down curve curve' flat floor_t m near c c') e

  -- A negative trial: the same with the sides exchanged and the bar's numbers negated.
  down_close : (m : ℕ) → Within k (whole (pos m)) (neg_f trial) → UpClose compression tension k (side_stored limit_c m B) A (neg_f stress) B' A'
  down_close m near = ⊎_elim from_up from_down e
    where
      from_up : ExactUp tension compression trial exact-A exact-B stress A' B' → UpClose compression tension k (side_stored limit_c m B) A
          (neg_f stress) B' A'
      from_up up =
          up_and_down curve' curve flat' floor_c m near c' c
          (record { trial_down = trial; stress_down = stress; trial_negated = negated_twice trial; stress_negated = negated_twice stress; up = up })

      from_down : ExactDown tension compression trial exact-A exact-B stress A' B' → UpClose compression tension k (side_stored limit_c m B) A
          (neg_f stress) B' A'
      from_down d =
          let (stresses, limits, limits') = both_up curve' curve flat' floor_c m
          (within_same near (≈F-refl (whole (pos m))) (≈F-sym d.trial_negated)) c' c d.up in
          (within_same stresses (≈F-refl (whole (pos (side_stored limit_c m B).magnitude))) d.stress_negated, limits, limits')

pub asymmetric_stays_close : {tension compression : Side} → Hardens tension → Hardens compression → Flattens tension → Flattens compression
    → {limit_t limit_c : ℕ → ℕ} → ((a : ℕ) → LimitRounded tension (pos a) (limit_t a)) → ((a : ℕ) → LimitRounded compression (pos a) (limit_c a))
    → {k : ℕ} {stress : ℤ} {A B : ℕ} {exact-stress exact-A exact-B : Frac}
    → AsymmetricClose tension compression k stress A B exact-stress exact-A exact-B → (w : ℤ)
    → let stored = asymmetric_stored limit_t limit_c (stress +ℤ w) A B in
    let exact = asymmetric tension compression (exact-stress +F whole w) exact-A exact-B in
    AsymmetricClose tension compression (k + flag stored.yielded) stored.stress stored.tension stored.compression
    exact.stress exact.tension exact.compression
unfolding asymmetric_stored
asymmetric_stays_close {tension} {compression} curve curve' flat flat' {limit_t} {limit_c} floor_t floor_c {k} {stress} {A} {B} {exact-stress} {exact-A} {exact-B} c w =
    go (stress +ℤ w) (within_add stress w c.stress_close)
  where
    trial : Frac
    trial = exact-stress +F whole w

    m : AsymmetricExactNumbers
    m = asymmetric tension compression trial exact-A exact-B

    e : Exact tension compression trial exact-A exact-B m.stress m.tension m.compression
    e = exact_cases curve curve' trial exact-A exact-B c.tension_close.exact_past c.compression_close.exact_past

    go : (s : ℤ) → Within k (whole s) trial
        → let stored = asymmetric_stored limit_t limit_c s A B in
        AsymmetricClose tension compression (k + flag stored.yielded) stored.stress stored.tension stored.compression
        m.stress m.tension m.compression
    go (pos n) near =
        let (stresses, limits, limits') = up_close curve curve' flat flat' floor_t floor_c c.tension_close c.compression_close e n near in
        record { stress_close = stresses; tension_close = limits; compression_close = limits' }
    go (negsuc n) near =
        let (stresses, limits, limits') = down_close curve curve' flat flat' floor_t floor_c c.tension_close c.compression_close e
        (suc n) (rw whole_neg at (within_neg near)) in
        record {
          stress_close = within_same (rw whole_neg at (within_neg stresses))
              (≈F-refl (whole (neg_ℤ (pos (side_stored limit_c (suc n) B).magnitude)))) (≈F-sym (negated_twice m.stress));
          tension_close = limits';
          compression_close = limits;
        }
