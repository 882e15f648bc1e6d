-- The bound of SPEC 11.8 on one side, on magnitudes: the stored rod (x, a to y, b, rounded by at most g) and the bar (z, c to w, e, not
-- rounded) that were within k are within k + g.
use mathlib.Core.Path.{◌≡◌}
use mathlib.Core.List.{[], ◌∷◌}
use mathlib.Core.Logic.{inl, inr, ⊎_elim}
use Prim.Native.Nat.{ℕ, ◌+◌, ◌*◌, ◌≤◌}
use native.Mathlib.Nat.{add-zero, le_dest}
use native.Mathlib.Omega.{arith}
use lib.IntN.{pos}
use Rattle.fractions.specs.Fraction.{Frac, ◌≤F◌, ◌<F◌, whole, ◌+F◌, ◌-F◌, Within}
use Rattle.fractions.proofs.Common.{Is, is_shift, is_whole, is_add, is_sub, is_mul, is_le, is_lt, at-common}
use Rattle.fractions.proofs.Comparison.{≤F-of-<F, ≤F-of-≈F, ≤F-trans, ≤F-or-<F, ≈F-sym, ≈F-refl}
use Rattle.fractions.proofs.Arithmetic.{is_within, within_sym, within_weaken, within_same}
use Rattle.fractions.proofs.Secant.{secant}
use Rattle.flow.specs.Side.{Side, Hardens, Flattens}
use Rattle.flow.proofs.OneSide.{accumulated_mono, limit_positive}
use Rattle.accuracy.proofs.Move.{Flows, Move, has_grown, limit_rises, limit_at_most}

-- ---- One of the two flows, the other stays inside its limit

module _ {side : Side} (curve : Hardens side) {k g : ℕ} {x a y b z c : Frac} (p : side.yield ≤F a) (f : Flows side g x a y b)
    (r : z ≤F side.limit c)
    (h : Within k x z) (l : Within k (side.limit a) (side.limit c)) where
  pub one_flows : Within (k + g) y z × Within (k + g) (side.limit b) (side.limit c)
  one_flows =
      at-common (x ∷ y ∷ z ∷ side.limit a ∷ side.limit b ∷ side.limit c ∷ [])
      (λ d ((_, _, x'), ((_, _, y'), ((_, _, z'), ((_, _, a'), ((_, _, b'), ((_, _, c'), _)))))).
      let w = is_whole (pos g) x'.some in
      let near = (is_within k x' z').0 h in
      let limits = (is_within k a' c').0 l in
      let inside = (is_le z' c').0 r in
      let lower = (is_le y' x').0 f.lower in
      let rounded = (is_le b' (is_add y' w)).0 f.rounded in
      let rises = (is_le a' b').0 (limit_rises curve p f) in
      let most = (is_le b' (is_add x' w)).0 (limit_at_most curve p f) in (
        (is_within (k + g) y' z').1 (record { above = omega arith; below = omega arith }),
        (is_within (k + g) b' c').1 (record { above = omega arith; below = omega arith }),
      ))

-- A trial of at most k on a side where the other one does not move, as where the signs differ: the limits are above nought.
pub limits_apart : {side : Side} → Hardens side → {k g : ℕ} {x a y b c : Frac} → side.yield ≤F a → side.yield ≤F c → Move side g x a y b
    → x ≤F whole (pos k) → Within k (side.limit a) (side.limit c) → Within (k + g) (side.limit b) (side.limit c)
limits_apart {side} curve {k} {g} {x} {a} {y} {b} {c} p p' (inl f) h l = within_weaken
    (within_same l (curve.respects (≈F-sym f.abscissa)) (≈F-refl (side.limit c))) g
limits_apart {side} curve {k} {g} {x} {a} {y} {b} {c} p p' (inr f) h l =
    at-common (x ∷ side.limit a ∷ side.limit b ∷ side.limit c ∷ [])
    (λ d ((_, _, x'), ((_, _, a'), ((_, _, b'), ((_, _, c'), _)))).
    let limits = (is_within k a' c').0 l in
    let small = (is_le x' (is_whole (pos k) x'.some)).0 h in
    let rises = (is_le a' b').0 (limit_rises curve p f) in
    let most = (is_le b' (is_add x' (is_whole (pos g) x'.some))).0 (limit_at_most curve p f) in
    let high = (is_lt (is_whole (pos 0) x'.some) c').0 (limit_positive curve p') in
    (is_within (k + g) b' c').1 (record { above = omega arith; below = omega arith }))

-- ---- Both flow: secants fall

within_above : {x y : Frac} {k : ℕ} → Within k x y → x ≤F (y +F whole (pos k))
within_above {x} {y} {k} h =
    at-common (x ∷ y ∷ []) (λ d ((_, _, i), ((_, _, j), _)). (is_le i (is_add j (is_whole (pos k) i.some))).1 (omega (arith, (is_within k i j).0 h)))

at_most_more : {x y : Frac} (k : ℕ) → x ≤F y → x ≤F (y +F whole (pos k))
at_most_more {x} {y} k h =
    at-common (x ∷ y ∷ []) (λ d ((_, _, i), ((_, _, j), _)). (is_le i (is_add j (is_whole (pos k) i.some))).1 (omega (arith, (is_le i j).0 h)))

-- A gap as a natural over the denominator.
gap : {x y : Frac} {p n q m d : ℕ} → Is x p n d → Is y q m d → x ≤F y → (α : ℕ) × Is (y -F x) α 0 d × (p + m + α ≡ q + n)
gap {x} {y} {p} {n} {q} {m} {d} i j h = go (le_dest ((is_le i j).0 h))
  where
    go : (α : ℕ) × (p + m + α ≡ q + n) → (α : ℕ) × Is (y -F x) α 0 d × (p + m + α ≡ q + n)
    go (α, e) = (α, is_shift α 0 (omega arith) (is_sub j i), e)

module _ {side : Side} (curve : Hardens side) (flat : Flattens side) (k : ℕ) where
  -- The one that comes out ahead (b' ≤ a') has a limit ahead by at most k, if it had before and the gap grew by no more than k allows.
  ahead : {a b a' b' : Frac} → side.yield ≤F a → side.yield ≤F b → a ≤F a' → b ≤F b' → b' ≤F a'
      → (a' +F side.limit a +F b) ≤F (b' +F side.limit b +F a +F whole (pos k)) → side.limit a ≤F (side.limit b +F whole (pos k))
      → side.limit a' ≤F (side.limit b' +F whole (pos k))
  ahead {a} {b} {a'} {b'} p p' h h' l g e = ⊎_elim behind before (≤F-or-<F a b)
    where
      behind : a ≤F b → side.limit a' ≤F (side.limit b' +F whole (pos k))
      behind q =
          at-common (a ∷ b ∷ a' ∷ b' ∷ side.limit a ∷ side.limit b ∷ side.limit a' ∷ side.limit b' ∷ [])
          (λ d ((_, _, i), ((_, _, j), ((_, _, i'), ((_, _, j'), ((_, _, r), ((_, _, s), ((_, _, r'), ((_, _, s'), _)))))))).
          let w = is_whole (pos k) i.some in
          (is_le r' (is_add s' w)).1
          (omega (
            arith,
            (is_le (is_sub i r) (is_sub j s)).0 (accumulated_mono curve p q),
            (is_le (is_sub j' s') (is_sub i' r')).0 (accumulated_mono curve (≤F-trans p' h') l),
            (is_le (is_add (is_add i' r) j) (is_add (is_add (is_add j' s) i) w)).0 g,
          )))

      -- τ and τ' are the rises over the gaps α and α'
      before : b <F a → side.limit a' ≤F (side.limit b' +F whole (pos k))
      before q =
          at-common (a ∷ b ∷ a' ∷ b' ∷ side.limit a ∷ side.limit b ∷ side.limit a' ∷ side.limit b' ∷ [])
          (λ d ((_, _, i), ((_, _, j), ((_, _, i'), ((_, _, j'), ((_, _, r), ((_, _, s), ((_, _, r'), ((_, _, s'), _)))))))).
          let w = is_whole (pos k) i.some in
          let (α, x, u) = gap j i (≤F-of-<F q) in
          let (α', x', u') = gap j' i' l in
          let (τ, y, v) = gap s r (curve.rises p' (≤F-of-<F q)) in
          let (τ', y', v') = gap s' r' (curve.rises (≤F-trans p' h') l) in
          let slope = (is_le (is_sub j s) (is_sub i r)).0 (accumulated_mono curve p' (≤F-of-<F q)) in
          let slope' = (is_le (is_sub j' s') (is_sub i' r')).0 (accumulated_mono curve (≤F-trans p' h') l) in
          let grew = (is_le (is_add (is_add i' r) j) (is_add (is_add (is_add j' s) i) w)).0 g in
          let apart = (is_le r (is_add s w)).0 e in
          let falls = (is_le (is_mul x y') (is_mul x' y)).0 (flat.falls p' (≤F-of-<F q) l h' h) in
          let kept : τ' ≤ d * k = secant α τ α' τ' (d * k) (omega arith) (omega arith) (omega arith) (omega arith) (omega arith) in
          (is_le r' (is_add s' w)).1 (omega arith))

module _ {side : Side} (curve : Hardens side) (flat : Flattens side) {k g : ℕ} {x a y b z c w e : Frac} (p : side.yield ≤F a) (p' : side.yield ≤F c)
    (f : Flows side g x a y b) (f' : Flows side 0 z c w e) (h : Within k x z) (l : Within k (side.limit a) (side.limit c)) where
  -- The gap between the abscissas grows by no more than the trials are apart, and what rounding adds.
  gap_grows : ((b +F side.limit a +F c) ≤F (e +F side.limit c +F a +F whole (pos (k + g))))
      × ((e +F side.limit c +F a) ≤F (b +F side.limit a +F c +F whole (pos k)))
  gap_grows =
      at-common (x ∷ z ∷ a ∷ b ∷ c ∷ e ∷ side.limit a ∷ side.limit c ∷ [])
      (λ d ((_, _, x'), ((_, _, z'), ((_, _, a'), ((_, _, b'), ((_, _, c'), ((_, _, e'), ((_, _, r), ((_, _, s), _)))))))).
      let near = (is_within k x' z').0 h in
      let most = (is_le (is_add b' r) (is_add (is_add a' x') (is_whole (pos g) x'.some))).0 f.most in
      let least = (is_le (is_add a' x') (is_add b' r)).0 f.least in
      let most' = (is_le (is_add e' s) (is_add (is_add c' z') (is_whole (pos 0) x'.some))).0 f'.most in
      let least' = (is_le (is_add c' z') (is_add e' s)).0 f'.least in (
        (is_le (is_add (is_add b' r) c') (is_add (is_add (is_add e' s) a') (is_whole (pos (k + g)) x'.some))).1 (omega arith),
        (is_le (is_add (is_add e' s) a') (is_add (is_add (is_add b' r) c') (is_whole (pos k) x'.some))).1 (omega arith),
      ))

  -- The rounded one's limit comes out ahead by at most k + g, the other one's by at most k.
  limits_kept : (side.limit b ≤F (side.limit e +F whole (pos (k + g)))) × (side.limit e ≤F (side.limit b +F whole (pos k)))
  limits_kept = ⊎_elim rounded_ahead exact_ahead (≤F-or-<F e b)
    where
      on : a ≤F b
      on = ≤F-of-<F (has_grown curve p f)

      on' : c ≤F e
      on' = ≤F-of-<F (has_grown curve p' f')

      rounded_ahead : e ≤F b → (side.limit b ≤F (side.limit e +F whole (pos (k + g)))) × (side.limit e ≤F (side.limit b +F whole (pos k)))
      rounded_ahead q = (
        ahead curve flat (k + g) p p' on on' q gap_grows.0 (within_above (within_weaken l g)),
        at_most_more k (curve.rises (≤F-trans p' on') q),
      )

      exact_ahead : b <F e → (side.limit b ≤F (side.limit e +F whole (pos (k + g)))) × (side.limit e ≤F (side.limit b +F whole (pos k)))
      exact_ahead q = (
        at_most_more (k + g) (curve.rises (≤F-trans p on) (≤F-of-<F q)),
        ahead curve flat k p' p on' on (≤F-of-<F q) gap_grows.1 (within_above (within_sym l)),
      )

  pub both_flow : Within (k + g) y w × Within (k + g) (side.limit b) (side.limit e)
  both_flow =
      at-common (y ∷ w ∷ side.limit b ∷ side.limit e ∷ [])
      (λ d ((_, _, y'), ((_, _, w'), ((_, _, b'), ((_, _, e'), _)))).
      let n = is_whole (pos g) y'.some in
      let above = (is_le b' (is_add e' (is_whole (pos (k + g)) y'.some))).0 limits_kept.0 in
      let below = (is_le e' (is_add b' (is_whole (pos k) y'.some))).0 limits_kept.1 in
      let inside = (is_le y' b').0 f.inside in
      let rounded = (is_le b' (is_add y' n)).0 f.rounded in
      let inside' = (is_le w' e').0 f'.inside in
      let rounded' = (is_le e' (is_add w' (is_whole (pos 0) y'.some))).0 f'.rounded in (
        (is_within (k + g) y' w').1 (record { above = omega arith; below = omega arith }),
        (is_within (k + g) b' e').1 (record { above = omega arith; below = omega arith }),
      ))

-- ---- All four cases, where the signs are the same

pub same_signs : {side : Side} → Hardens side → Flattens side → {k g : ℕ} {x a y b z c w e : Frac} → side.yield ≤F a → side.yield ≤F c
    → Move side g x a y b → Move side 0 z c w e → Within k x z → Within k (side.limit a) (side.limit c)
    → Within (k + g) y w × Within (k + g) (side.limit b) (side.limit e)
same_signs curve flat {g = g} p p' (inl r) (inl r') h l = (
  within_weaken (within_same h (≈F-sym r.magnitude) (≈F-sym r'.magnitude)) g,
  within_weaken (within_same l (curve.respects (≈F-sym r.abscissa)) (curve.respects (≈F-sym r'.abscissa))) g,
)
same_signs {side} curve flat {k} {g} {w = w} {e = e} p p' (inl r) (inr f') h l =
    let (stress, limits) = rw add-zero at (one_flows curve p' f' r.within (within_sym h) (within_sym l)) in (
      within_weaken (within_same (within_sym stress) (≈F-sym r.magnitude) (≈F-refl w)) g,
      within_weaken (within_same (within_sym limits) (curve.respects (≈F-sym r.abscissa)) (≈F-refl (side.limit e))) g,
    )
same_signs {side} curve flat {y = y} {b = b} p p' (inr f) (inl r') h l =
    let (stress, limits) = one_flows curve p f r'.within h l in
    (within_same stress (≈F-refl y) (≈F-sym r'.magnitude), within_same limits (≈F-refl (side.limit b)) (curve.respects (≈F-sym r'.abscissa)))
same_signs curve flat p p' (inr f) (inr f') h l = both_flow curve flat p p' f f' h l

module _ {side : Side} {g : ℕ} {x a y b : Frac} where
  pub stays_past : Hardens side → side.yield ≤F a → Move side g x a y b → side.yield ≤F b
  stays_past curve p (inl r) = ≤F-trans p (≤F-of-≈F (≈F-sym r.abscissa))
  stays_past curve p (inr f) = ≤F-trans p (≤F-of-<F (has_grown curve p f))

  pub no_more_than_trial : Move side g x a y b → y ≤F x
  no_more_than_trial (inl r) = ≤F-of-≈F r.magnitude
  no_more_than_trial (inr f) = f.lower

-- ---- Where the signs differ: the two trials come to at most k together

module _ (k g : ℕ) {x z : Frac} (h : (x +F z) ≤F whole (pos k)) where
  pub trial_small : whole (pos 0) ≤F z → x ≤F whole (pos k)
  trial_small l =
      at-common (x ∷ z ∷ [])
      (λ d ((_, _, i), ((_, _, j), _)).
      let n = is_whole (pos k) i.some in
      (is_le i n).1 (omega (arith, (is_le (is_whole (pos 0) i.some) j).0 l, (is_le (is_add i j) n).0 h)))

  pub exact_trial_small : whole (pos 0) ≤F x → z ≤F whole (pos (k + g))
  exact_trial_small l =
      at-common (x ∷ z ∷ [])
      (λ d ((_, _, i), ((_, _, j), _)).
      (is_le j (is_whole (pos (k + g)) i.some)).1
      (omega (arith, (is_le (is_whole (pos 0) i.some) i).0 l, (is_le (is_add i j) (is_whole (pos k) i.some)).0 h)))

  pub magnitudes_small : {y w : Frac} → y ≤F x → w ≤F z → (y +F w) ≤F whole (pos (k + g))
  magnitudes_small {y} {w} l m =
      at-common (x ∷ z ∷ y ∷ w ∷ [])
      (λ d ((_, _, i), ((_, _, j), ((_, _, u), ((_, _, v), _)))).
      (is_le (is_add u v) (is_whole (pos (k + g)) i.some)).1
      (omega (arith, (is_le u i).0 l, (is_le v j).0 m, (is_le (is_add i j) (is_whole (pos k) i.some)).0 h)))
