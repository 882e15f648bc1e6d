-- SPEC 11.8 under law 2: a pair keeps the stored rod within k of the bar, where k counts the pairs that yielded.
use mathlib.Core.Bool.{Bool, true, false}
use mathlib.Core.Path.{◌≡◌, refl, sym, ◌∙◌, ap}
use mathlib.Core.List.{[], ◌∷◌}
use mathlib.Core.Logic.{⊎_elim}
use Prim.Native.Nat.{ℕ, suc, ◌+◌, ◌-◌, ◌*◌, ◌/◌, ◌≤◌, ◌<◌}
use native.Mathlib.Omega.{arith}
use borrow.Author.Tests.{leb-true, leb-false}
use lib.Dec.{leb}
use lib.IntN.{ℤ, pos, negsuc, neg_ℤ, nat_abs, ◌+ℤ◌, ◌-ℤ◌, neg_ℤ-+ℤ, neg_ℤ-neg_ℤ}
use Rattle.fractions.specs.Fraction.{Frac, ◌≤F◌, ◌<F◌, ◌≈F◌, whole, ◌+F◌, neg_f, ◌-F◌, abs_f, signed, signed_f, times_f, Within}
use Rattle.fractions.specs.Rounding.{Floor}
use Rattle.fractions.proofs.UpDown.{up, dn, abs_parts, add_parts, sub-parts-ℤ}
use Rattle.fractions.proofs.Common.{is_same, is_whole, is_whole_one, is_add, is_negated, is_sub, is_abs, is_le, is_lt, is_eq, at-common}
use Rattle.fractions.proofs.Comparison.{≤F-refl, ≤F-of-≈F, ≤F-trans, ≈F-refl, ≈F-sym, ≈F-trans, le_f_true, le_f_false}
use Rattle.fractions.proofs.Cases.{cond_cases}
use Rattle.fractions.proofs.Arithmetic.{add_same, sub_same, times_same, times_not_negative, add_mono, whole_add, whole_neg, within_sym, within_same, within_weaken, within_add, within_neg}
use Rattle.fractions.proofs.Signs.{sign_cases}
use Rattle.fractions.proofs.Rounded.{is_floor, floor_same, floor_times}
use Rattle.bits.specs.Field.{flag}
use Rattle.flow.specs.Solution.{ExactNumbers, kinematic}
use Rattle.flow.specs.Stored.{KinematicStored, kinematic_stored}
use Rattle.flow.proofs.Asymmetric.{negated_twice}
use Rattle.accuracy.proofs.Close.{KinematicClose}
use Rattle.accuracy.proofs.Centre.{Inside, Beyond, stays_behind, beyond_and_inside, beyond_apart, beyond_both}

-- A number as it stands, or negated: the upper side of the centre, or the lower one.
abbrev turn : Bool → Frac → Frac
turn true x = x
turn false x = neg_f x

within_turn : (b : Bool) {k : ℕ} {x y : Frac} → Within k x y → Within k (turn b x) (turn b y)
within_turn true h = h
within_turn false h = within_neg h

within_unturn : (b : Bool) {k : ℕ} {x y : Frac} → Within k (turn b x) (turn b y) → Within k x y
within_unturn true h = h
within_unturn false {k} {x} {y} h = within_same (within_neg h) (≈F-sym (negated_twice x)) (≈F-sym (negated_twice y))

inside_turn : (b : Bool) {y s x : Frac} → Inside y s x → Inside y (turn b s) (turn b x)
inside_turn true i = i
inside_turn false {y} {s} {x} n =
    at-common (y ∷ s ∷ x ∷ [])
    (λ d ((_, _, r), ((_, _, i), ((_, _, j), _))).
    record {
      above = (is_le (is_negated i) (is_add (is_negated j) r)).1 (omega (arith, (is_le j (is_add i r)).0 n.below));
      below = (is_le (is_negated j) (is_add (is_negated i) r)).1 (omega (arith, (is_le i (is_add j r)).0 n.above));
    })

-- Inside the radius, or beyond it on one side.
data CentreMove (E t : ℕ) (h : 0 < E) (g : ℕ) (y s x q x' : Frac) : Type 0 where
  inside : Inside y s x → q ≈F s → x' ≈F x → CentreMove E t h g y s x q x'
  beyond : (b : Bool) → Beyond E t h g y (turn b s) (turn b x) (turn b q) (turn b x') → CentreMove E t h g y s x q x'

module _ {E t : ℕ} {h : 0 < E} (slope : t ≤ E) {k g : ℕ} {y s x q x' z c w c' : Frac} (zero : whole (pos 0) ≤F y) (hs : Within k s z)
    (hx : Within k x c) where
  apart : CentreMove E t h g y s x q x' → CentreMove E t h 0 y z c w c' → Within (k + g) q w × Within (k + g) x' c'
  apart (inside n e f) (inside n' e' f') =
      (within_weaken (within_same hs (≈F-sym e) (≈F-sym e')) g, within_weaken (within_same hx (≈F-sym f) (≈F-sym f')) g)
  apart (beyond b m) (inside n' e' f') =
      let (stresses, centres) = beyond_and_inside slope m (inside_turn b n') (within_turn b hs) (within_turn b hx) in (
        within_weaken (within_same (within_unturn b stresses) (≈F-refl q) (≈F-sym e')) g,
        within_weaken (within_same (within_unturn b centres) (≈F-refl x') (≈F-sym f')) g,
      )
  apart (inside n e f) (beyond b m) =
      let (stresses, centres) = beyond_and_inside slope m (inside_turn b n) (within_turn b (within_sym hs)) (within_turn b (within_sym hx)) in (
        within_weaken (within_same (within_sym (within_unturn b stresses)) (≈F-sym e) (≈F-refl w)) g,
        within_weaken (within_same (within_sym (within_unturn b centres)) (≈F-sym f) (≈F-refl c')) g,
      )
  apart (beyond true m) (beyond true m') = beyond_both slope m m' hs hx
  apart (beyond false m) (beyond false m') =
      let (stresses, centres) = beyond_both slope m m' (within_neg hs) (within_neg hx) in (within_unturn false stresses, within_unturn false centres)
  apart (beyond true m) (beyond false m') =
      let (stresses, centres) = beyond_apart slope m zero m' (stays_behind slope m') hs hx in (within_weaken stresses g, within_weaken centres g)
  apart (beyond false m) (beyond true m') =
      let (stresses, centres) = beyond_apart slope m' zero m (stays_behind slope m) (within_sym hs) (within_sym hx) in
      (within_weaken (within_sym stresses) g, within_weaken (within_sym centres) g)

-- ---- The bar

exact_inside : {y s x : Frac} → abs_f (s -F x) ≤F y → Inside y s x
exact_inside {y} {s} {x} l =
    at-common (y ∷ s ∷ x ∷ [])
    (λ d ((_, _, r), ((_, _, i), ((_, _, j), _))).
    let m = (is_le (is_abs (is_sub i j)) r).0 l in
    record { above = (is_le i (is_add j r)).1 (omega arith); below = (is_le j (is_add i r)).1 (omega arith) })

-- What has the sign of v beside a sum, on the side of v.
neg_sum : (a b : Frac) {c : Frac} → c ≈F neg_f b → neg_f (a +F c) ≈F (neg_f a +F b)
neg_sum a b {c} e = at-common (a ∷ b ∷ [])
    (λ d ((_, _, i), ((_, _, j), _)). (is_eq (is_negated (is_add i (is_same (≈F-sym e) (is_negated j)))) (is_add (is_negated i) j)).1 (omega arith))

module _ {E t : ℕ} {h : 0 < E} {y : Frac} where
  exact_beyond : {s x q x' : Frac} → (x +F y) <F s → x' ≈F (x +F times_f (s -F x -F y) t E h) → q ≈F (x' +F y) → Beyond E t h 0 y s x q x'
  exact_beyond {s} {x} {q} {x'} p e f =
      record {
        passes = p;
        radius = f;
        on =
            ≤F-trans (at-common (x ∷ share ∷ [])
            (λ d ((_, _, j), ((_, _, k), _)). (is_le j (is_add j k)).1 (omega (arith, (is_le (is_whole (pos 0) j.some) k).0 up))))
            (≤F-of-≈F (≈F-sym e));
        least = ≤F-of-≈F e;
        most = ≤F-trans (≤F-of-≈F (≈F-sym e))
            (at-common (x' ∷ []) (λ d ((_, _, j), _). (is_le j (is_add j (is_whole (pos 0) j.some))).1 (omega arith)));
      }
    where
      share : Frac
      share = times_f (s -F x -F y) t E h

      up : whole (pos 0) ≤F share
      up =
          times_not_negative (s -F x -F y) t E h
          (at-common (y ∷ s ∷ x ∷ []) (λ d ((_, _, r), ((_, _, i), ((_, _, j), _))). (is_le (is_whole (pos 0) r.some)
          (is_sub (is_sub i j) r)).1 (omega (arith, (is_lt (is_add j r) i).0 p))))

  exact_centre : (s x : Frac) → let m = kinematic E t h y s x in CentreMove E t h 0 y s x m.stress m.variable
  unfolding kinematic
  exact_centre s x =
      cond_cases (λ (m : ExactNumbers). CentreMove E t h 0 y s x m.stress m.variable) _ _ _
      (λ e. inside (exact_inside (le_f_true _ _ e)) (≈F-refl s) (≈F-refl x))
      (λ e. ⊎_elim (λ (u, sign). beyond true (upper (le_f_false _ _ e) u sign)) (λ (u, sign). beyond false (lower (le_f_false _ _ e) u sign))
      (sign_cases v))
    where
      v : Frac
      v = s -F x

      share : Frac
      share = times_f (abs_f v -F y) t E h

      x' : Frac
      x' = x +F signed_f v share

      upper : y <F abs_f v → whole (pos 0) ≤F v → ((z : Frac) → signed_f v z ≈F z) → Beyond E t h 0 y s x (x' +F signed_f v y) x'
      upper l u sign =
          at-common (y ∷ s ∷ x ∷ [])
          (λ d ((_, _, r), ((_, _, i), ((_, _, j), _))).
          let past = (is_lt r (is_abs (is_sub i j))).0 l in
          let side = (is_le (is_whole (pos 0) r.some) (is_sub i j)).0 u in
          let size : abs_f v ≈F (s -F x) = (is_eq (is_abs (is_sub i j)) (is_sub i j)).1 (omega arith) in
          exact_beyond ((is_lt (is_add j r) i).1 (omega arith))
          (add_same (≈F-refl x) (≈F-trans (sign share) (times_same t E h (sub_same size (≈F-refl y))))) (add_same (≈F-refl x') (sign y)))

      lower : y <F abs_f v → v <F whole (pos 0) → ((z : Frac) → signed_f v z ≈F neg_f z)
          → Beyond E t h 0 y (neg_f s) (neg_f x) (neg_f (x' +F signed_f v y)) (neg_f x')
      lower l u sign =
          at-common (y ∷ s ∷ x ∷ [])
          (λ d ((_, _, r), ((_, _, i), ((_, _, j), _))).
          let past = (is_lt r (is_abs (is_sub i j))).0 l in
          let side = (is_lt (is_sub i j) (is_whole (pos 0) r.some)).0 u in
          let size : abs_f v ≈F (neg_f s -F neg_f x) = (is_eq (is_abs (is_sub i j)) (is_sub (is_negated i) (is_negated j))).1 (omega arith) in
          exact_beyond ((is_lt (is_add (is_negated j) r) (is_negated i)).1 (omega arith))
          (≈F-trans (neg_sum x share (sign share)) (add_same (≈F-refl (neg_f x)) (times_same t E h (sub_same size (≈F-refl y)))))
          (neg_sum x' y (sign y)))

-- ---- The stored rod

stored_inside : (y : ℕ) (s X : ℤ) → nat_abs (s -ℤ X) ≤ y → Inside (whole (pos y)) (whole s) (whole X)
stored_inside y s X l =
    let distance = sub-parts-ℤ s X in
    let size = abs_parts (s -ℤ X) in
    record {
      above = (is_le (is_whole_one s) (is_add (is_whole_one X) (is_whole_one (pos y)))).1 (omega arith);
      below = (is_le (is_whole_one X) (is_add (is_whole_one s) (is_whole_one (pos y)))).1 (omega arith);
    }

module _ {E t : ℕ} {h : 0 < E} (y : ℕ) where
  -- On the upper side, n being how far the trial lies from the centre.
  stored_beyond : (s X : ℤ) (n : ℕ) → s -ℤ X ≡ pos n → y < n
      → let X' = X +ℤ pos ((n - y) * t / E) in Beyond E t h 1 (whole (pos y)) (whole s) (whole X) (whole (X' +ℤ pos y)) (whole X')
  stored_beyond s X n e l =
      record {
        passes = (is_lt (is_add (is_whole_one X) (is_whole_one (pos y))) (is_whole_one s)).1 (omega (arith, distance));
        radius = ≈F-sym (whole_add (X +ℤ pos M) (pos y));
        on = (is_le (is_whole_one X) (is_whole_one (X +ℤ pos M))).1 (omega (arith, add_parts X (pos M)));
        least = ≤F-trans (≤F-of-≈F (≈F-sym (whole_add X (pos M)))) (add_mono (≤F-refl (whole X)) floor.below);
        most =
            at-common (share ∷ [])
            (λ d ((_, _, i), _).
            let sum = ap (λ (a : ℕ). d * a) (add_parts X (pos M)) in
            (is_le (is_add (is_whole X i.some) i) (is_add (is_whole (X +ℤ pos M) i.some) (is_whole (pos 1) i.some))).1
            (omega (arith, ((is_floor i (pos M)).0 floor).1)));
      }
    where
      M : ℕ
      M = (n - y) * t / E

      distance : up s + dn X ≡ n + (dn s + up X)
      distance = omega (arith, sub-parts-ℤ s X, ap up e, ap dn e)

      excess : whole (pos (n - y)) ≈F (whole s -F whole X -F whole (pos y))
      excess = (is_eq (is_whole_one (pos (n - y))) (is_sub (is_sub (is_whole_one s) (is_whole_one X)) (is_whole_one (pos y)))).1
          (omega (arith, distance))

      share : Frac
      share = times_f (whole s -F whole X -F whole (pos y)) t E h

      floor : Floor share (pos M)
      floor = floor_same (pos M) (times_same t E h excess) (floor_times (n - y) t E h)

  stored_centre : (s X : ℤ) → let m = kinematic_stored E t y s X in
      CentreMove E t h (flag m.yielded) (whole (pos y)) (whole s) (whole X) (whole m.stress) (whole m.centre)
  unfolding kinematic_stored
  stored_centre s X =
      cond_cases (λ (m : KinematicStored). CentreMove E t h (flag m.yielded) (whole (pos y)) (whole s) (whole X)
      (whole m.stress) (whole m.centre))
      (leb (nat_abs (s -ℤ X)) y) _ _
      (λ l. inside (stored_inside y s X (leb-true (nat_abs (s -ℤ X)) y l)) (≈F-refl (whole s)) (≈F-refl (whole X)))
      (λ l. past (s -ℤ X) refl (leb-false (nat_abs (s -ℤ X)) y l))
    where
      past : (v : ℤ) → s -ℤ X ≡ v → y < nat_abs v
          → let X' = X +ℤ signed v (pos ((nat_abs v - y) * t / E)) in
          CentreMove E t h 1 (whole (pos y)) (whole s) (whole X) (whole (X' +ℤ signed v (pos y))) (whole X')
      past (pos n) e l = beyond true (stored_beyond s X n e l)
      past (negsuc n) e l =
          let negated = sym (neg_ℤ-+ℤ s (neg_ℤ X)) ∙ ap neg_ℤ e in
          beyond false (simp (whole_neg, neg_ℤ-+ℤ, neg_ℤ-neg_ℤ) (stored_beyond (neg_ℤ s) (neg_ℤ X) (suc n) negated l))

pub kinematic_stays_close : {E t : ℕ} (h : 0 < E) → t ≤ E → (yield : ℕ) {k : ℕ} {stress X : ℤ} {exact-stress exact-X : Frac}
    → KinematicClose k stress X exact-stress exact-X → (w : ℤ)
    → let stored = kinematic_stored E t yield (stress +ℤ w) X in
    let exact = kinematic E t h (whole (pos yield)) (exact-stress +F whole w) exact-X in
    KinematicClose (k + flag stored.yielded) stored.stress stored.centre exact.stress exact.variable
kinematic_stays_close h slope yield {stress = stress} {X} {exact-stress} {exact-X} c w =
    let zero = (is_le (is_whole_one (pos 0)) (is_whole_one (pos yield))).1 (omega arith) in
    let (stresses, centres) = apart slope zero (within_add stress w c.stress_close) c.centre_close
    (stored_centre yield (stress +ℤ w) X) (exact_centre (exact-stress +F whole w) exact-X) in
    record { stress_close = stresses; centre_close = centres }
