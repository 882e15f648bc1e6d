-- Law 2 under one pair, rounded or not (SPEC 6.9, 7.3): inside the radius about the centre, or beyond it. The centre x moves to x' and the
-- stress becomes q. `g` is what rounding may take from the centre's move: 1 for the stored rod, 0 for the bar.
use mathlib.Core.Path.{◌≡◌, ap}
use mathlib.Core.List.{[], ◌∷◌}
use Prim.Native.Nat.{ℕ, ◌+◌, ◌*◌, ◌≤◌, ◌<◌}
use native.Mathlib.Nat.{mul-le-mul_left, le_dest}
use native.Mathlib.Omega.{arith}
use lib.IntN.{pos}
use Rattle.fractions.specs.Fraction.{Frac, ◌≤F◌, ◌<F◌, ◌≈F◌, whole, ◌+F◌, neg_f, ◌-F◌, times_f, Within}
use Rattle.fractions.proofs.Common.{is_whole, is_scale, is_add, is_negated, is_sub, is_times, is_le, is_lt, is_eq, at-common}
use Rattle.fractions.proofs.Arithmetic.{Near, is_within}
use Rattle.fractions.proofs.Secant.{mul_gap}

-- The stress s within the radius.
pub record Inside (y s x : Frac) : Type 0 where
  pub above : s ≤F (x +F y)
  pub below : x ≤F (s +F y)

-- The trial s beyond the radius, on the upper side; the lower side is this with every number negated.
pub record Beyond (E t : ℕ) (h : 0 < E) (g : ℕ) (y s x q x' : Frac) : Type 0 where
  pub passes : (x +F y) <F s
  pub radius : q ≈F (x' +F y)
  pub on : x ≤F x'
  pub least : x' ≤F (x +F times_f (s -F x -F y) t E h)
  pub most : (x +F times_f (s -F x -F y) t E h) ≤F (x' +F whole (pos g))

module _ {E t : ℕ} {h : 0 < E} (slope : t ≤ E) {g : ℕ} {y s x q x' : Frac} (b : Beyond E t h g y s x q x') where
  -- The centre stays one radius behind the trial.
  pub stays_behind : (x' +F y) ≤F s
  stays_behind =
      at-common (y ∷ s ∷ x ∷ x' ∷ [])
      (λ d ((y₁, y₂, r), ((s₁, s₂, i), ((x₁, x₂, j), ((_, _, k), _)))).
      let e = is_times t E h (is_sub (is_sub i j) r) in
      let past : s₂ + x₁ + y₁ ≤ s₁ + x₂ + y₂ = omega (arith, (is_lt (is_add j r) i).0 b.passes) in
      (is_le (is_add (is_scale E h k) (is_scale E h r)) (is_scale E h i)).1
      (omega (arith, (is_le (is_scale E h k) (is_add (is_scale E h j) e)).0 b.least, mul_gap slope past)))

  -- One beyond the radius, the other inside it.
  pub beyond_and_inside : {k : ℕ} {z c : Frac} → Inside y z c → Within k s z → Within k x c → Within k q z × Within k x' c
  beyond_and_inside {k} {z} {c} n hs hx =
      at-common (y ∷ s ∷ x ∷ q ∷ x' ∷ z ∷ c ∷ [])
      (λ d ((_, _, r), ((_, _, i), ((_, _, j), ((_, _, u), ((_, _, v), ((_, _, z'), ((_, _, c'), _))))))).
      let near = (is_within k i z').0 hs in
      let centres = (is_within k j c').0 hx in
      let above = (is_le z' (is_add c' r)).0 n.above in
      let below = (is_le c' (is_add z' r)).0 n.below in
      let on = (is_le j v).0 b.on in
      let behind = (is_le (is_add v r) i).0 stays_behind in
      let radius = (is_eq u (is_add v r)).0 b.radius in (
        (is_within k u z').1 (record { above = omega arith; below = omega arith }),
        (is_within k v c').1 (record { above = omega arith; below = omega arith }),
      ))

  -- The two beyond the radius on different sides.
  pub beyond_apart : {k g' : ℕ} {z c w c' : Frac} → whole (pos 0) ≤F y → Beyond E t h g' y (neg_f z) (neg_f c) (neg_f w) (neg_f c')
      → (neg_f c' +F y) ≤F neg_f z → Within k s z → Within k x c → Within k q w × Within k x' c'
  beyond_apart {k} {g'} {z} {c} {w} {c'} hy b' behind' hs hx =
      at-common (y ∷ s ∷ x ∷ q ∷ x' ∷ z ∷ c ∷ w ∷ c' ∷ [])
      (λ d ((_, _, r), ((_, _, i), ((_, _, j), ((_, _, u), ((_, _, v), ((_, _, z₀), ((_, _, c₀), ((_, _, w₀), ((_, _, v₀), _))))))))).
      let near = (is_within k i z₀).0 hs in
      let centres = (is_within k j c₀).0 hx in
      let up = (is_le (is_whole (pos 0) r.some) r).0 hy in
      let on = (is_le j v).0 b.on in
      let behind = (is_le (is_add v r) i).0 stays_behind in
      let radius = (is_eq u (is_add v r)).0 b.radius in
      let on' = (is_le (is_negated c₀) (is_negated v₀)).0 b'.on in
      let behind₀ = (is_le (is_add (is_negated v₀) r) (is_negated z₀)).0 behind' in
      let radius' = (is_eq (is_negated w₀) (is_add (is_negated v₀) r)).0 b'.radius in (
        (is_within k u w₀).1 (record { above = omega arith; below = omega arith }),
        (is_within k v v₀).1 (record { above = omega arith; below = omega arith }),
      ))

-- Both beyond the radius on the same side: E (x' - c') is (E - t) (x - c) + t (s - z), but for the rounding. In naturals: the first
-- centre's move is at most its share, the second one's at least its own, but for n.
moves_differ : (E t x₁ x₂ v₁ v₂ s₁ s₂ c₁ c₂ w₁ w₂ z₁ z₂ y₁ y₂ m n : ℕ)
    → E * v₁ + (E * x₂ + t * (s₂ + x₁ + y₁)) ≤ E * x₁ + t * (s₁ + x₂ + y₂) + E * v₂
    → E * c₁ + t * (z₁ + c₂ + y₂) + (E * w₂ + m) ≤ E * w₁ + n + (E * c₂ + t * (z₂ + c₁ + y₁))
    → E * (v₁ + w₂) + E * (c₁ + x₂) + (t * (z₁ + s₂) + t * (x₁ + c₂)) ≤ E * (w₁ + v₂) + E * (x₁ + c₂) + (t * (s₁ + z₂) + t * (c₁ + x₂)) + n
moves_differ E t x₁ x₂ v₁ v₂ s₁ s₂ c₁ c₂ w₁ w₂ z₁ z₂ y₁ y₂ m n f g = omega arith

-- The weights E - t and t of the two differences come to E.
weighed : (E t u d k g w v x x' s s' : ℕ) → t + u ≡ E
    → E * v + E * x' + (t * s' + t * x) ≤ E * w + E * x + (t * s + t * x') + E * d * g → x ≤ x' + d * k → s ≤ s' + d * k
    → E * v ≤ E * w + E * d * (k + g)
weighed E t u d k g w v x x' s s' e h l m =
    omega (arith, ap (λ (n : ℕ). n * x) e, ap (λ (n : ℕ). n * x') e, ap (λ (n : ℕ). n * (d * k)) e, mul-le-mul_left u l, mul-le-mul_left t m)

near_of : (E v₁ v₂ w₁ w₂ d k g : ℕ) → E * (v₁ + w₂) ≤ E * (w₁ + v₂) + E * d * (k + 0) → E * (w₁ + v₂) ≤ E * (v₁ + w₂) + E * d * (k + g)
    → Near (E * d * (k + g)) (E * v₁) (E * v₂) (E * w₁) (E * w₂)
near_of E v₁ v₂ w₁ w₂ d k g a b = record { above = omega arith; below = omega arith }

module _ {E t : ℕ} {h : 0 < E} (slope : t ≤ E) {g k : ℕ} {y s x q x' z c w c' : Frac} (b : Beyond E t h g y s x q x') (b' : Beyond E t h 0 y z c w c')
    (hs : Within k s z) (hx : Within k x c) where
  centres_both : Within (k + g) x' c'
  centres_both = go (le_dest slope)
    where
      go : (u : ℕ) × (t + u ≡ E) → Within (k + g) x' c'
      go (u, e) =
          at-common (y ∷ s ∷ x ∷ x' ∷ z ∷ c ∷ c' ∷ [])
          (λ d ((y₁, y₂, r), ((s₁, s₂, i), ((x₁, x₂, j), ((v₁, v₂, v), ((z₁, z₂, z₀), ((c₁, c₂, c₀), ((w₁, w₂, v₀), _))))))).
          let f = is_times t E h (is_sub (is_sub i j) r) in
          let f' = is_times t E h (is_sub (is_sub z₀ c₀) r) in
          let near = (is_within k i z₀).0 hs in
          let centres = (is_within k j c₀).0 hx in
          let least = (is_le (is_scale E h v) (is_add (is_scale E h j) f)).0 b.least in
          let most = (is_le (is_add (is_scale E h j) f) (is_add (is_scale E h v) (is_whole (pos g) f.some))).0 b.most in
          let least' = (is_le (is_scale E h v₀) (is_add (is_scale E h c₀) f')).0 b'.least in
          let most' = (is_le (is_add (is_scale E h c₀) f') (is_add (is_scale E h v₀) (is_whole (pos 0) f.some))).0 b'.most in
          let above = weighed E t u d k 0 (w₁ + v₂) (v₁ + w₂) (x₁ + c₂) (c₁ + x₂) (s₁ + z₂) (z₁ + s₂) e
          (moves_differ E t _ _ _ _ _ _ _ _ _ _ _ _ y₁ y₂ _ _ least most') centres.above near.above in
          let below = weighed E t u d k g (v₁ + w₂) (w₁ + v₂) (c₁ + x₂) (x₁ + c₂) (z₁ + s₂) (s₁ + z₂) e
          (moves_differ E t _ _ _ _ _ _ _ _ _ _ _ _ y₁ y₂ _ _ least' most) centres.below near.below in
          (is_within (k + g) (is_scale E h v) (is_scale E h v₀)).1 (near_of E v₁ v₂ w₁ w₂ d k g above below))

  pub beyond_both : Within (k + g) q w × Within (k + g) x' c'
  beyond_both = (
    at-common (y ∷ q ∷ x' ∷ w ∷ c' ∷ [])
        (λ d ((_, _, r), ((_, _, i), ((_, _, v), ((_, _, j), ((_, _, v₀), _))))).
        let near = (is_within (k + g) v v₀).0 centres_both in
        let radius = (is_eq i (is_add v r)).0 b.radius in
        let radius' = (is_eq j (is_add v₀ r)).0 b'.radius in
        (is_within (k + g) i j).1 (record { above = omega arith; below = omega arith })),
    centres_both,
  )
