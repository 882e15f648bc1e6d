-- T over fractions: the same at equal abscissas, the whole limit is its floor, it doesn't fall, it rises by at most the abscissa's growth,
-- and past the yield by less. Assumes nothing.
use Prim.Native.Nat.{ℕ, ◌+◌, ◌-◌, ◌*◌, ◌≤◌, ◌<◌}
use mathlib.Core.Path.{◌≡◌, refl, sym, ap}
use mathlib.Core.List.{[], ◌∷◌}
use mathlib.Core.Logic.{⊎_elim}
use native.Mathlib.Nat.{mul-sub, mul-one, one-mul, mul-pos, mul_left_comm, mul-le-mul_left}
use native.Mathlib.Omega.{arith}
use lib.IntN.{ℤ, pos, negsuc}
use Rattle.fractions.specs.Fraction.{Frac, whole, ◌≤F◌, ◌<F◌, ◌≈F◌, ◌-F◌}
use Rattle.fractions.specs.Rounding.{Floor}
use Rattle.fractions.proofs.UpDown.{up, dn, le_of_parts}
use Rattle.fractions.proofs.Common.{Is, is_own, is_same, is_whole, is_whole_one, is_sub, is_scale, is_le, is_lt, is_eq, at-common}
use Rattle.fractions.proofs.Comparison.{≤F-refl, ≤F-or-<F, <F-not-≤F, whole_le}
use Rattle.fractions.proofs.Rounded.{floor_quotient}
use Rattle.units.specs.declared.Magnitude.{Magnitude}
use Rattle.units.specs.declared.Modulus.{Modulus}
use Rattle.curve.specs.declared.Side.{Side}
use Rattle.curve.specs.Sides.{curve_of, reading_of}
use Rattle.curve.specs.Curve.{Curve, Below, Falling, height, limit_at, abscissa_of, limit_f}
use Rattle.curve.proofs.Height.{height_scale, height_below_yield, height_concave, height_below}

-- The numerator that is read as an abscissa, of a fraction that is (p - n) / d too.
abscissa_is : (z : ℤ) (e d p n : ℕ) → e * p + d * dn z ≡ e * n + d * up z → d * abscissa_of z ≡ e * (p - n)
abscissa_is (pos k) e d p n same = rw (mul-sub e p n) (omega arith)
abscissa_is (negsuc k) e d p n same = rw (mul-sub e p n) (omega arith)

-- E times accumulated plastic strain (SPEC 4.7), as flow's `accumulated` has it of a side: what the abscissa has beyond its yield limit.
abbrev pub plastic_f : (E : ℕ) → 0 < E → Curve → Frac → Frac
plastic_f E some c x = x -F limit_f E some c x

module _ (E : ℕ) (some : 0 < E) (c : Curve) where
  abbrev over : ℕ → ℕ → ℕ
  over d a = height E (d * E) (d * c.yield) c.segments a

  over_scale : (d e a : ℕ) → e * over d a ≡ height E (e * (d * E)) (e * (d * c.yield)) c.segments (e * a)
  over_scale d e a = sym (height_scale e E (d * E) (d * c.yield) c.segments a)

  -- T of a fraction over d is a fraction over E d.
  pub is_limit : {x : Frac} {p n d : ℕ} → Is x p n d → Is (limit_f E some c x) (height E (d * E) (d * c.yield) c.segments (p - n)) 0 (E * d)
  unfolding limit_f
  is_limit {x} {p} {n} {d} i =
      let e = x.den in
      let a = abscissa_of x.num in
      let both : e * over d (p - n) ≡ d * over e a =
      rw (over_scale d e (p - n), over_scale e d a, mul_left_comm e d E, mul_left_comm e d c.yield, abscissa_is x.num e d p n i.same) in
      record { some = mul-pos some i.some; same = omega (arith, ap (λ (m : ℕ). E * m) both) }

  pub limit_same : {x x' : Frac} → x ≈F x' → limit_f E some c x ≈F limit_f E some c x'
  limit_same {x} same = (is_eq (is_limit (is_own x)) (is_limit (is_same same (is_own x)))).1 refl

  -- Up to the yield T is the abscissa; so it starts at (yield, yield).
  pub limit_below_yield : {x : Frac} → whole (pos 0) ≤F x → x ≤F whole (pos c.yield) → limit_f E some c x ≈F x
  limit_below_yield {x} h k =
      at-common (x ∷ []) (λ d ((p, n, i), _). go d p n i ((is_le (is_whole (pos 0) i.some) i).0 h) ((is_le i (is_whole (pos c.yield) i.some)).0 k))
    where
      go : (d p n : ℕ) → Is x p n d → d * 0 + n ≤ p + d * 0 → p + d * 0 ≤ d * c.yield + n → limit_f E some c x ≈F x
      go d p n i some-abscissa below =
          let whole-abscissa : p - n + n ≡ p = omega arith in
          (is_eq (is_limit i) (is_scale E some i)).1
          (omega (arith, height_below_yield E (d * E) (d * c.yield) c.segments (p - n) (omega arith), ap (λ (k : ℕ). E * k) whole-abscissa))

  pub limit_at_yield : limit_f E some c (whole (pos c.yield)) ≈F whole (pos c.yield)
  limit_at_yield = limit_below_yield ((whole_le (pos 0) (pos c.yield)).1 (le_of_parts (pos 0) (pos c.yield) (omega arith))) (≤F-refl (whole (pos c.yield)))

  pub is_limit_whole : (a : ℕ) → Is (limit_f E some c (whole (pos a))) (height E E c.yield c.segments a) 0 E
  is_limit_whole a =
      let zero : a - 0 ≡ a = omega arith in
      rw (one-mul E, one-mul c.yield, zero, mul-one E) at (is_limit (is_whole_one (pos a)))

  -- SPEC 4.4: the whole limit is the floor of T.
  pub limit_floor : (a : ℕ) → Floor (limit_f E some c (whole (pos a))) (pos (limit_at E c a))
  unfolding limit_at
  limit_floor a = floor_quotient (is_limit_whole a)

  module _ (falling : Falling E c.segments) where
    -- Over one denominator, from a to b.
    over_grows : (d a b : ℕ) → a ≤ b → (over d a ≤ over d b) × (over d b ≤ over d a + E * (b - a))
    over_grows d a b h =
        let concave = height_concave E (d * E) (d * c.yield) c.segments falling in
        let end : a + (b - a) ≡ b = omega arith in
        (rw end at (concave.mono a (b - a)), rw end at (concave.steep a (b - a)))

    pub limit_monotone : {x x' : Frac} → x ≤F x' → limit_f E some c x ≤F limit_f E some c x'
    limit_monotone {x} {x'} h =
        at-common (x ∷ x' ∷ [])
        (λ d ((p, n, i), ((q, m, j), _)). (is_le (is_limit i) (is_limit j)).1 (omega (arith, over_grows d (p - n) (q - m) (omega (arith, (is_le i j).0 h)))))

    -- T rises by at most the abscissa's growth.
    pub limit_lipschitz : {x x' : Frac} → x ≤F x' → (limit_f E some c x' -F limit_f E some c x) ≤F (x' -F x)
    limit_lipschitz {x} {x'} h = at-common (x ∷ x' ∷ []) (λ d ((p, n, i), ((q, m, j), _)). go d p n q m i j ((is_le i j).0 h))
      where
        go : (d p n q m : ℕ) → Is x p n d → Is x' q m d → p + m ≤ q + n → (limit_f E some c x' -F limit_f E some c x) ≤F (x' -F x)
        go d p n q m i j l =
            let growth : q - m - (p - n) + (p + m) ≤ q + n = omega arith in
            (is_le (is_sub (is_limit j) (is_limit i)) (is_scale E some (is_sub j i))).1
            (omega (arith, over_grows d (p - n) (q - m) (omega arith), mul-le-mul_left E growth))

  -- Past the yield T rises by less than the abscissa, so E times accumulated plastic strain, the abscissa less T, grows strictly.
  pub plastic_strictly_increasing : Below E c.segments → {x x' : Frac} → whole (pos c.yield) ≤F x → x <F x' → plastic_f E some c x <F plastic_f E some c x'
  plastic_strictly_increasing below {x} {x'} past h =
      at-common (x ∷ x' ∷ []) (λ d ((p, n, i), ((q, m, j), _)). go d p n q m i j ((is_le (is_whole (pos c.yield) i.some) i).0 past) ((is_lt i j).0 h))
    where
      go : (d p n q m : ℕ) → Is x p n d → Is x' q m d → d * c.yield + n ≤ p + d * 0 → p + m < q + n → plastic_f E some c x <F plastic_f E some c x'
      go d p n q m i j yielded l =
          let a = p - n in
          let k = q - m - (p - n) in
          let end : a + k ≡ q - m = omega arith in
          let growth : k + (p + m) ≡ q + n = omega arith in
          (is_lt (is_sub (is_scale E some i) (is_limit i)) (is_sub (is_scale E some j) (is_limit j))).1
          (omega (arith, rw end at (height_below E (d * E) (d * c.yield) c.segments below a k (omega arith) (omega arith)), ap (λ (g : ℕ). E * g) growth))

  -- So an abscissa with no more plastic strain is no greater.
  pub plastic_reflects : Below E c.segments → {x x' : Frac} → whole (pos c.yield) ≤F x' → plastic_f E some c x ≤F plastic_f E some c x' → x ≤F x'
  plastic_reflects below {x} {x'} past h =
      ⊎_elim (λ le. le) (λ gt. absurd (<F-not-≤F (plastic_strictly_increasing below past gt) h)) (≤F-or-<F x x')

-- A reading's limit is T at the abscissa, rounded down.
pub reading_floor : (side : Side) (e : Modulus) (some : 0 < e.0) (a : Magnitude) → Floor (limit_f e.0 some (curve_of side) (whole (pos a.0))) (pos (reading_of side e a).limit.0)
unfolding reading_of
reading_floor side e some a = limit_floor e.0 some (curve_of side) a.0
