-- SPEC 2.5, 2.6 over a common denominator. `Is x p n d` says that x is (p - n) / d, all naturals. Every operation has its law here, and an
-- order or an equation of fractions over one denominator is one of naturals, which `omega` decides; so any finite set of fractions is
-- brought to one denominator (`common`) and settled there.
use mathlib.Core.Path.{◌≡◌, sym, ◌∙◌, ap}
use mathlib.Core.List.{List, [], ◌∷◌}
use mathlib.Core.Logic.{◌↔◌}
use Prim.Native.Nat.{ℕ, zero, suc, ◌+◌, ◌*◌, ◌≤◌, ◌<◌, min, max}
use native.Mathlib.Nat.{mul-add, mul-mul-mul_comm, mul_comm, mul-pos, mul-le-mul_left, mul-lt-mul_of_pos_left, le_of_mul-le-mul_left, lt_of_mul-lt-mul_left, eq_of_mul-eq-mul_left}
use native.Mathlib.Decide.{dec_le}
use native.Mathlib.Omega.{arith}
use lib.Dec.{lit<}
use lib.IntN.{ℤ, pos, negsuc, nat_abs, ◌*ℤ◌}
use Rattle.fractions.specs.Fraction.{Frac, ◌≤F◌, ◌<F◌, ◌≈F◌, whole, ratio, ◌+F◌, neg_f, ◌-F◌, abs_f, signed, signed_f, times_f, ◌*F◌}
use Rattle.fractions.proofs.UpDown.{up, dn, equal_parts, add_parts, neg_parts, times_parts, mul_parts, le_parts, le_of_parts, lt_parts, lt_of_parts}

-- x is (p - n) / d.
pub record Is (x : Frac) (p n d : ℕ) : Type 0 where
  pub some : 0 < d
  pub same : x.den * p + d * dn x.num ≡ x.den * n + d * up x.num

-- ---- Denominators

pub is_own : (x : Frac) → Is x (up x.num) (dn x.num) x.den
is_own x = record { some = x.den_pos; same = omega arith }

pub is_scale : {x : Frac} {p n d : ℕ} (c : ℕ) → 0 < c → Is x p n d → Is x (c * p) (c * n) (c * d)
is_scale {x} {p} {n} {d} c h i = record { some = mul-pos h i.some; same = omega (arith, ap (λ (m : ℕ). c * m) i.same) }

pub is_unscale : {x : Frac} (p n d : ℕ) {c : ℕ} → 0 < c → Is x (c * p) (c * n) (c * d) → Is x p n d
is_unscale {x} p n d {c} h i =
    record {
      some = lt_of_mul-lt-mul_left c (omega (arith, i.some));
      same = eq_of_mul-eq-mul_left c h (x.den * p + d * dn x.num) (x.den * n + d * up x.num) (omega (arith, i.same));
    }

-- The same difference.
pub is_shift : {x : Frac} {p n d : ℕ} (q m : ℕ) → p + m ≡ q + n → Is x p n d → Is x q m d
is_shift {x} {p} {n} {d} q m e i = record { some = i.some; same = omega (arith, ap (λ (k : ℕ). x.den * k) e, i.same) }

-- ---- Operations

pub is_whole : (z : ℤ) {d : ℕ} → 0 < d → Is (whole z) (d * up z) (d * dn z) d
unfolding whole
is_whole z h = record { some = h; same = omega arith }

pub is_whole_one : (z : ℤ) → Is (whole z) (up z) (dn z) 1
unfolding whole
is_whole_one z = is_own (whole z)

pub is_ratio : (z : ℤ) (d : ℕ) → 0 < d → Is (ratio z d) (up z) (dn z) d
is_ratio z zero h = absurd (omega arith)
is_ratio z (suc d) h = is_own (ratio z (suc d))

pub is_add : {x y : Frac} {p n q m d : ℕ} → Is x p n d → Is y q m d → Is (x +F y) (p + q) (n + m) d
unfolding ◌+F◌
is_add {x} {y} {p} {n} {q} {m} {d} i j =
    let a = x.num in
    let b = y.num in
    record {
      some = i.some;
      same =
          add_core x.den y.den d (up a) (dn a) (up b) (dn b) _ _ p n q m
          i.same j.same
          (rw (← (times_parts y.den a).0, ← (times_parts y.den a).1, ← (times_parts x.den b).0, ← (times_parts x.den b).1)
          (add_parts (pos y.den *ℤ a) (pos x.den *ℤ b)));
    }
  where
    add_core : (dx dy d ua da ub db u v p n q m : ℕ) → dx * p + d * da ≡ dx * n + d * ua → dy * q + d * db ≡ dy * m + d * ub
        → u + (dy * da + dx * db) ≡ dy * ua + dx * ub + v → dx * dy * (p + q) + d * v ≡ dx * dy * (n + m) + d * u
    add_core dx dy d ua da ub db u v p n q m e f g = omega (arith, ap (λ (k : ℕ). dy * k) e, ap (λ (k : ℕ). dx * k) f, ap (λ (k : ℕ). d * k) g)

pub is_negated : {x : Frac} {p n d : ℕ} → Is x p n d → Is (neg_f x) n p d
unfolding neg_f
is_negated {x} {p} {n} {d} i =
    record { some = i.some; same = rw ((neg_parts x.num).0, (neg_parts x.num).1) (sym i.same) }

pub is_sub : {x y : Frac} {p n q m d : ℕ} → Is x p n d → Is y q m d → Is (x -F y) (p + m) (n + q) d
unfolding ◌-F◌
is_sub i j = is_add i (is_negated j)

pub is_times : {x : Frac} {p n d : ℕ} (t e : ℕ) (h : 0 < e) → Is x p n d → Is (times_f x t e h) (t * p) (t * n) (e * d)
unfolding times_f
is_times {x} {p} {n} {d} t e h i =
    record {
      some = mul-pos h i.some;
      same = rw ((times_parts t x.num).0, (times_parts t x.num).1) (omega (arith, ap (λ (k : ℕ). e * (t * k)) i.same));
    }

-- (a - b)(c - d) = (a' - b')(c' - d'), where a - b = a' - b' and c - d = c' - d'.
product_of_differences : (a b c d a' b' c' d' : ℕ) → a + b' ≡ b + a' → c + d' ≡ d + c'
    → a * c + b * d + (a' * d' + b' * c') ≡ a * d + b * c + (a' * c' + b' * d')
product_of_differences a b c d a' b' c' d' e f =
    omega (arith, ap (λ (k : ℕ). k * c) e, ap (λ (k : ℕ). k * d) e, ap (λ (k : ℕ). a' * k) f, ap (λ (k : ℕ). b' * k) f)

product_core : (dx dy d e p n q m a b a' b' u v : ℕ)
    → dx * p * (dy * q) + dx * n * (dy * m) + (d * a * (e * b') + d * b * (e * a'))
    ≡ dx * p * (dy * m) + dx * n * (dy * q) + (d * a * (e * a') + d * b * (e * b'))
    → u + (a * b' + b * a') ≡ a * a' + b * b' + v → dx * dy * (p * q + n * m) + d * e * v ≡ dx * dy * (p * m + n * q) + d * e * u
product_core dx dy d e p n q m a b a' b' u v f g =
    let h : d * e * u + (d * a * (e * b') + d * b * (e * a')) ≡ d * a * (e * a') + d * b * (e * b') + d * e * v =
    simp (mul-add, mul-mul-mul_comm d e) at (ap (λ (k : ℕ). d * e * k) g) in
    rw (
      mul-add (dx * dy) (p * q) (n * m),
      mul-add (dx * dy) (p * m) (n * q),
      mul-mul-mul_comm dx dy p q,
      mul-mul-mul_comm dx dy n m,
      mul-mul-mul_comm dx dy p m,
      mul-mul-mul_comm dx dy n q,
    )
    (omega arith)

pub is_mul : {x y : Frac} {p n d q m e : ℕ} → Is x p n d → Is y q m e → Is (x *F y) (p * q + n * m) (p * m + n * q) (d * e)
unfolding ◌*F◌
is_mul {x} {y} {p} {n} {d} {q} {m} {e} i j =
    record {
      some = mul-pos i.some j.some;
      same =
          product_core x.den y.den d e p n q m (up x.num) (dn x.num) (up y.num) (dn y.num) _ _
          (product_of_differences (x.den * p) (x.den * n) (y.den * q) (y.den * m) (d * up x.num) (d * dn x.num) (e * up y.num)
          (e * dn y.num) i.same j.same)
          (mul_parts x.num y.num);
    }

-- ---- Signs

-- x's own numerator has the sign of p - n.
up_of_is : {x : Frac} {p n d : ℕ} → Is x p n d → n ≤ p → dn x.num ≤ up x.num
up_of_is {x} {p} {n} {d} i h = le_of_mul-le-mul_left {k = d} (omega (arith, mul-le-mul_left x.den h, i.same)) i.some

dn_of_is : {x : Frac} {p n d : ℕ} → Is x p n d → p < n → up x.num < dn x.num
dn_of_is {x} {p} {n} {d} i h = lt_of_mul-lt-mul_left d (omega (arith, mul-lt-mul_of_pos_left h x.den_pos, i.same))

pub is_signed_up : {s x : Frac} {p n d q m e : ℕ} → Is s p n d → n ≤ p → Is x q m e → Is (signed_f s x) q m e
unfolding signed_f
is_signed_up {s} {x} {q} {m} {e} i h j = record { some = j.some; same = go s.num (up_of_is i h) }
  where
    go : (z : ℤ) → dn z ≤ up z → x.den * q + e * dn (signed z x.num) ≡ x.den * m + e * up (signed z x.num)
    go (pos k) l = j.same
    go (negsuc k) l = absurd (omega arith)

pub is_signed_dn : {s x : Frac} {p n d q m e : ℕ} → Is s p n d → p < n → Is x q m e → Is (signed_f s x) m q e
unfolding signed_f
is_signed_dn {s} {x} {q} {m} {e} i h j = record { some = j.some; same = go s.num (dn_of_is i h) }
  where
    go : (z : ℤ) → up z < dn z → x.den * m + e * dn (signed z x.num) ≡ x.den * q + e * up (signed z x.num)
    go (pos k) l = absurd (omega arith)
    go (negsuc k) l = rw ((neg_parts x.num).0, (neg_parts x.num).1) (sym j.same)

pub is_abs_up : {x : Frac} {p n d : ℕ} → Is x p n d → n ≤ p → Is (abs_f x) p n d
unfolding abs_f
is_abs_up {x} {p} {n} {d} i h = record { some = i.some; same = go x.num i.same (up_of_is i h) }
  where
    go : (z : ℤ) → x.den * p + d * dn z ≡ x.den * n + d * up z → dn z ≤ up z → x.den * p + d * 0 ≡ x.den * n + d * nat_abs z
    go (pos k) e l = e
    go (negsuc k) e l = absurd (omega arith)

pub is_abs_dn : {x : Frac} {p n d : ℕ} → Is x p n d → p < n → Is (abs_f x) n p d
unfolding abs_f
is_abs_dn {x} {p} {n} {d} i h = record { some = i.some; same = go x.num i.same (dn_of_is i h) }
  where
    go : (z : ℤ) → x.den * p + d * dn z ≡ x.den * n + d * up z → up z < dn z → x.den * n + d * 0 ≡ x.den * p + d * nat_abs z
    go (pos k) e l = absurd (omega arith)
    go (negsuc k) e l = omega arith

pub is_abs : {x : Frac} {p n d : ℕ} → Is x p n d → Is (abs_f x) (max p n) (min p n) d
is_abs {x} {p} {n} {d} i = go (dec_le n p)
  where
    go : Dec (n ≤ p) → Is (abs_f x) (max p n) (min p n) d
    go (yes h) = is_shift (max p n) (min p n) (omega arith) (is_abs_up i h)
    go (no h) = is_shift (max p n) (min p n) (omega arith) (is_abs_dn i (omega arith))

-- ---- Order and equality

-- Two fractions over d: d times the difference of the cross products is the product of the two denominators times that of the numerators.
balance : (a b d u v u' v' p n q m : ℕ) → a * p + d * v ≡ a * n + d * u → b * q + d * v' ≡ b * m + d * u'
    → d * (b * u + a * v') + a * b * (q + n) ≡ d * (a * u' + b * v) + a * b * (p + m)
balance a b d u v u' v' p n q m e f = omega (arith, ap (λ (k : ℕ). b * k) e, ap (λ (k : ℕ). a * k) f)

-- The numerator of x times the other denominator.
abbrev product : Frac → Frac → ℤ
product x y = pos y.den *ℤ x.num

module _ {x y : Frac} {p n q m d : ℕ} (i : Is x p n d) (j : Is y q m d) where
  product_pos : 0 < x.den * y.den
  product_pos = mul-pos x.den_pos y.den_pos

  cross_balance : d * (up (product x y) + dn (product y x)) + x.den * y.den * (q + n)
      ≡ d * (up (product y x) + dn (product x y)) + x.den * y.den * (p + m)
  cross_balance =
      rw ((times_parts y.den x.num).0, (times_parts y.den x.num).1, (times_parts x.den y.num).0, (times_parts x.den y.num).1)
      (balance x.den y.den d (up x.num) (dn x.num) (up y.num) (dn y.num) p n q m i.same j.same)

  pub is_le : (x ≤F y) ↔ (p + m ≤ q + n)
  is_le = (
    λ h. le_of_mul-le-mul_left {k = x.den * y.den} (omega (arith, mul-le-mul_left d (le_parts h.cross), cross_balance)) product_pos,
    λ h. record {
      cross = le_of_parts (product x y) (product y x)
          (le_of_mul-le-mul_left {k = d} (omega (arith, mul-le-mul_left (x.den * y.den) h, cross_balance)) i.some);
    },
  )

  pub is_lt : (x <F y) ↔ (p + m < q + n)
  is_lt = (
    λ h. lt_of_mul-lt-mul_left (x.den * y.den) (omega (arith, mul-lt-mul_of_pos_left (lt_parts h.cross) i.some, cross_balance)),
    λ h. record {
      cross = lt_of_parts (product x y) (product y x)
          (lt_of_mul-lt-mul_left d (omega (arith, mul-lt-mul_of_pos_left h product_pos, cross_balance)));
    },
  )

  pub is_eq : (x ≈F y) ↔ (p + m ≡ q + n)
  is_eq = (
    λ h. eq_of_mul-eq-mul_left (x.den * y.den) product_pos (p + m) (q + n)
        (omega (arith, ap (λ (z : ℤ). d * up z) h.cross, ap (λ (z : ℤ). d * dn z) h.cross, cross_balance)),
    λ h. record {
      cross = equal_parts (product x y) (product y x)
          (eq_of_mul-eq-mul_left d i.some (up (product x y) + dn (product y x)) (up (product y x) + dn (product x y))
          (omega (arith, ap (λ (k : ℕ). x.den * y.den * k) h, cross_balance)));
    },
  )

-- ---- Any finite set of fractions over one denominator

-- x is a difference of two naturals over d.
abbrev pub Over : ℕ → Frac → Type 0
Over d x = (p : ℕ) × (n : ℕ) × Is x p n d

abbrev pub AllOver : ℕ → List Frac → Type 0
AllOver d [] = Unit {0}
AllOver d (x ∷ xs) = Over d x × AllOver d xs

abbrev pub common_den : List Frac → ℕ
common_den [] = 1
common_den (x ∷ xs) = x.den * common_den xs

common_den_pos : (xs : List Frac) → 0 < common_den xs
common_den_pos [] = lit< tt
common_den_pos (x ∷ xs) = mul-pos x.den_pos (common_den_pos xs)

all_scale : (d c : ℕ) → 0 < c → (xs : List Frac) → AllOver d xs → AllOver (c * d) xs
all_scale d c h [] o = tt
all_scale d c h (x ∷ xs) o = ((c * o.0.0, c * o.0.1, is_scale c h o.0.2), all_scale d c h xs o.1)

pub common : (xs : List Frac) → AllOver (common_den xs) xs
common [] = tt
common (x ∷ xs) =
    ((common_den xs * up x.num, common_den xs * dn x.num, first), all_scale (common_den xs) x.den x.den_pos xs (common xs))
  where
    first : Is x (common_den xs * up x.num) (common_den xs * dn x.num) (x.den * common_den xs)
    first = rw (mul_comm x.den (common_den xs)) (is_scale (common_den xs) (common_den_pos xs) (is_own x))

-- Whatever follows over each common denominator holds.
pub at-common {ℓ} : (xs : List Frac) {P : Type ℓ} → ((d : ℕ) → AllOver d xs → P) → P
at-common xs f = f (common_den xs) (common xs)

-- The same number is the same difference over the same denominator.
pub is_same : {x y : Frac} {p n d : ℕ} → x ≈F y → Is x p n d → Is y p n d
is_same {x} {y} {p} {n} {d} e i =
    record {
      some = i.some;
      same =
          eq_of_mul-eq-mul_left x.den x.den_pos (y.den * p + d * dn y.num) (y.den * n + d * up y.num)
          (omega (arith, ap (λ (k : ℕ). y.den * k) i.same, ap (λ (k : ℕ). d * k) ups, ap (λ (k : ℕ). d * k) dns));
    }
  where
    ups : y.den * up x.num ≡ x.den * up y.num
    ups = sym (times_parts y.den x.num).0 ∙ ap up e.cross ∙ (times_parts x.den y.num).0

    dns : y.den * dn x.num ≡ x.den * dn y.num
    dns = sym (times_parts y.den x.num).1 ∙ ap dn e.cross ∙ (times_parts x.den y.num).1
