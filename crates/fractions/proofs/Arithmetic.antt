-- SPEC 2.6, 2.8: every operation on fractions respects "the same number"; sums are monotone; "within k" is two inequalities.
use mathlib.Core.Path.{◌≡◌, refl, ap}
use mathlib.Core.List.{[], ◌∷◌}
use mathlib.Core.Logic.{◌↔◌, ◌⊎◌, inl, inr, ⊎_elim}
use Prim.Native.Nat.{ℕ, ◌+◌, ◌*◌, ◌≤◌, ◌<◌}
use native.Mathlib.Nat.{mul-le-mul_left, mul-lt-mul_of_pos_left, lt_of_mul-lt-mul_left, eq_of_mul-eq-mul_left}
use native.Mathlib.Decide.{dec_le}
use native.Mathlib.Omega.{arith}
use lib.IntN.{ℤ, pos, negsuc, neg_ℤ, nat_abs, ◌+ℤ◌, ◌-ℤ◌}
use lib.Signed.{◌≤ℤ◌, ◌<ℤ◌}
use Rattle.fractions.specs.Fraction.{Frac, ◌≤F◌, ◌<F◌, ◌≈F◌, whole, ◌+F◌, neg_f, ◌-F◌, abs_f, signed, signed_f, times_f, Within}
use Rattle.fractions.proofs.Comparison.{≈F-refl, ≤F-cases}
use Rattle.fractions.proofs.UpDown.{up, dn, abs_parts, add_parts, sub-parts-ℤ, le_parts, lt_parts}
use Rattle.fractions.proofs.Common.{Is, is_own, is_same, is_scale, is_whole, is_whole_one, is_add, is_negated, is_sub, is_abs, is_signed_up, is_signed_dn, is_times, is_le, is_lt, is_eq, at-common}

pub add_same : {w x y z : Frac} → w ≈F x → y ≈F z → (w +F y) ≈F (x +F z)
add_same {w} {x} {y} {z} e f =
    at-common (w ∷ y ∷ []) (λ d ((_, _, i), ((_, _, j), _)). (is_eq (is_add i j) (is_add (is_same e i) (is_same f j))).1 refl)

pub neg_same : {x y : Frac} → x ≈F y → neg_f x ≈F neg_f y
neg_same {x} e = (is_eq (is_negated (is_own x)) (is_negated (is_same e (is_own x)))).1 refl

pub sub_same : {w x y z : Frac} → w ≈F x → y ≈F z → (w -F y) ≈F (x -F z)
sub_same {w} {x} {y} {z} e f =
    at-common (w ∷ y ∷ []) (λ d ((_, _, i), ((_, _, j), _)). (is_eq (is_sub i j) (is_sub (is_same e i) (is_same f j))).1 refl)

pub abs_same : {x y : Frac} → x ≈F y → abs_f x ≈F abs_f y
abs_same {x} e = (is_eq (is_abs (is_own x)) (is_abs (is_same e (is_own x)))).1 refl

pub signed_same : {w x y z : Frac} → w ≈F x → y ≈F z → signed_f w y ≈F signed_f x z
signed_same {w} {x} {y} {z} e f = at-common (w ∷ []) (λ d ((p, n, i), _). go p n d i (dec_le n p))
  where
    go : (p n d : ℕ) → Is w p n d → Dec (n ≤ p) → signed_f w y ≈F signed_f x z
    go p n d i (yes h) = (is_eq (is_signed_up i h (is_own y)) (is_signed_up (is_same e i) h (is_same f (is_own y)))).1 refl
    go p n d i (no h) =
        let l : p < n = omega arith in
        (is_eq (is_signed_dn i l (is_own y)) (is_signed_dn (is_same e i) l (is_same f (is_own y)))).1 refl

pub times_same : {x y : Frac} (t e : ℕ) (h : 0 < e) → x ≈F y → times_f x t e h ≈F times_f y t e h
times_same {x} t e h f = (is_eq (is_times t e h (is_own x)) (is_times t e h (is_same f (is_own x)))).1 refl

pub add_mono : {w x y z : Frac} → w ≤F x → y ≤F z → (w +F y) ≤F (x +F z)
add_mono {w} {x} {y} {z} g h =
    at-common (w ∷ x ∷ y ∷ z ∷ [])
    (λ d ((_, _, i), ((_, _, j), ((_, _, k), ((_, _, l), _)))). (is_le (is_add i k) (is_add j l)).1 (omega (arith, (is_le i j).0 g, (is_le k l).0 h)))

-- p - n and q - m differ by at most K.
pub record Near (K p n q m : ℕ) : Type 0 where
  pub above : p + m ≤ q + n + K
  pub below : q + n ≤ p + m + K

pub is_within : {x y : Frac} {p n q m d : ℕ} (k : ℕ) → Is x p n d → Is y q m d → Within k x y ↔ Near (d * k) p n q m
is_within {x} {y} {p} {n} {q} {m} {d} k i j =
    let u = is_abs (is_sub i j) in
    let v = is_whole (pos k) i.some in (
      λ w. let h = (is_le u v).0 w.within in record { above = omega arith; below = omega arith },
      λ near. record { within = (is_le u v).1 (omega (arith, near.above, near.below)) },
    )

-- ---- A ratio above nought keeps the sign, and the number can be told from the product

module _ (x : Frac) (t e : ℕ) (h : 0 < e) where
  pub times_not_negative : whole (pos 0) ≤F x → whole (pos 0) ≤F times_f x t e h
  times_not_negative k =
      at-common (x ∷ [])
      (λ d ((_, _, i), _).
      let j = is_times t e h i in
      (is_le (is_whole (pos 0) j.some) j).1 (omega (arith, mul-le-mul_left t ((is_le (is_whole (pos 0) i.some) i).0 k))))

  pub times_positive : 0 < t → (whole (pos 0) <F times_f x t e h) ↔ (whole (pos 0) <F x)
  times_positive l = (
    λ k. at-common (x ∷ [])
        (λ d ((_, _, i), _).
        let j = is_times t e h i in
        (is_lt (is_whole (pos 0) i.some) i).1 (lt_of_mul-lt-mul_left t (omega (arith, (is_lt (is_whole (pos 0) j.some) j).0 k)))),
    λ k. at-common (x ∷ [])
        (λ d ((_, _, i), _).
        let j = is_times t e h i in
        (is_lt (is_whole (pos 0) j.some) j).1 (omega (arith, mul-lt-mul_of_pos_left ((is_lt (is_whole (pos 0) i.some) i).0 k) l))),
  )

pub times_injective : (x y : Frac) (t e : ℕ) (h : 0 < e) → 0 < t → times_f x t e h ≈F times_f y t e h → x ≈F y
times_injective x y t e h l k =
    at-common (x ∷ y ∷ [])
    (λ d ((p, n, i), ((q, m, j), _)).
    (is_eq i j).1 (eq_of_mul-eq-mul_left t l (p + m) (q + n) (omega (arith, (is_eq (is_times t e h i) (is_times t e h j)).0 k))))

-- ---- Differences and sums above nought

-- A difference is above nought exactly where the second number is below the first.
pub difference_positive : {x y z : Frac} → z ≈F (y -F x) → (x <F y) ↔ (whole (pos 0) <F z)
difference_positive {x} {y} {z} e =
    at-common (x ∷ y ∷ z ∷ [])
    (λ d ((_, _, i), ((_, _, j), ((_, _, k), _))).
    let nought = is_whole (pos 0) i.some in
    let same = (is_eq k (is_sub j i)).0 e in
    (λ l. (is_lt nought k).1 (omega (arith, (is_lt i j).0 l)), λ l. (is_lt i j).1 (omega (arith, (is_lt nought k).0 l))))

-- A sum of two numbers that aren't negative is above nought exactly where one of them is.
pub sum_positive : {x y z : Frac} → whole (pos 0) ≤F x → whole (pos 0) ≤F y → z ≈F (x +F y)
    → ((whole (pos 0) <F x) ⊎ (whole (pos 0) <F y)) ↔ (whole (pos 0) <F z)
sum_positive {x} {y} {z} h h' e =
    at-common (x ∷ y ∷ z ∷ [])
    (λ d ((_, _, i), ((_, _, j), ((_, _, k), _))).
    let nought = is_whole (pos 0) i.some in
    let same = (is_eq k (is_add i j)).0 e in
    let low = (is_le nought i).0 h in
    let low' = (is_le nought j).0 h' in (
      ⊎_elim (λ l. (is_lt nought k).1 (omega (arith, (is_lt nought i).0 l))) (λ l. (is_lt nought k).1 (omega (arith, (is_lt nought j).0 l))),
      λ l. ⊎_elim (λ g. inl g) (λ g. inr ((is_lt nought j).1 (omega (arith, (is_eq nought i).0 g, (is_lt nought k).0 l)))) (≤F-cases h),
    ))

-- ---- A summand can be told from the sum

module _ (x y z : Frac) where
  pub add_injective : (x +F y) ≈F (x +F z) → y ≈F z
  add_injective h =
      at-common (x ∷ y ∷ z ∷ [])
      (λ d ((_, _, i), ((_, _, j), ((_, _, k), _))). (is_eq j k).1 (omega (arith, (is_eq (is_add i j) (is_add i k)).0 h)))

  pub sub_injective : (x -F y) ≈F (x -F z) → y ≈F z
  sub_injective h =
      at-common (x ∷ y ∷ z ∷ [])
      (λ d ((_, _, i), ((_, _, j), ((_, _, k), _))). (is_eq j k).1 (omega (arith, (is_eq (is_sub i j) (is_sub i k)).0 h)))

pub add_then_sub : (x y : Frac) → (x +F y -F x) ≈F y
add_then_sub x y = at-common (x ∷ y ∷ []) (λ d ((_, _, i), ((_, _, j), _)). (is_eq (is_sub (is_add i j) i) j).1 (omega arith))

-- k / e and then t / k is t / e.
pub times_times : (x : Frac) (t k e : ℕ) (h : 0 < k) (g : 0 < e) → times_f (times_f x k e g) t k h ≈F times_f x t e g
times_times x t k e h g =
    at-common (x ∷ []) (λ d ((_, _, i), _). (is_eq (is_times t k h (is_times k e g i)) (is_scale k h (is_times t e g i))).1 (omega arith))

-- ---- Whole numbers: the operations are those of the whole numbers

pub whole_abs : (z : ℤ) → abs_f (whole z) ≡ whole (pos (nat_abs z))
unfolding abs_f whole
whole_abs z = refl

pub whole_neg : (z : ℤ) → neg_f (whole z) ≡ whole (neg_ℤ z)
unfolding neg_f whole
whole_neg z = refl

pub whole_signed : (s z : ℤ) → signed_f (whole s) (whole z) ≡ whole (signed s z)
unfolding signed_f whole
whole_signed s z = refl

pub whole_add : (y z : ℤ) → (whole y +F whole z) ≈F whole (y +ℤ z)
whole_add y z = (is_eq (is_add (is_whole_one y) (is_whole_one z)) (is_whole_one (y +ℤ z))).1 (omega (arith, add_parts y z))

pub whole_sub : (y z : ℤ) → (whole y -F whole z) ≈F whole (y -ℤ z)
whole_sub y z = (is_eq (is_sub (is_whole_one y) (is_whole_one z)) (is_whole_one (y -ℤ z))).1 (omega (arith, sub-parts-ℤ y z))

-- ---- Within k

module _ {x y : Frac} {k : ℕ} (h : Within k x y) where
  pub within_sym : Within k y x
  within_sym =
      at-common (x ∷ y ∷ [])
      (λ d ((_, _, i), ((_, _, j), _)). let near = (is_within k i j).0 h in (is_within k j i).1 (record { above = near.below; below = near.above }))

  pub within_weaken : (g : ℕ) → Within (k + g) x y
  within_weaken g =
      at-common (x ∷ y ∷ [])
      (λ d ((_, _, i), ((_, _, j), _)). let near = (is_within k i j).0 h in (is_within (k + g) i j).1
      (record { above = omega arith; below = omega arith }))

  pub within_same : {x' y' : Frac} → x ≈F x' → y ≈F y' → Within k x' y'
  within_same e f =
      at-common (x ∷ y ∷ []) (λ d ((_, _, i), ((_, _, j), _)). (is_within k (is_same e i) (is_same f j)).1 ((is_within k i j).0 h))

-- The same whole number added to both.
pub within_add : {k : ℕ} (z : ℤ) {x : Frac} (w : ℤ) → Within k (whole z) x → Within k (whole (z +ℤ w)) (x +F whole w)
within_add {k} z {x} w h =
    within_same
    (at-common (whole z ∷ x ∷ whole w ∷ [])
    (λ d ((_, _, i), ((_, _, j), ((_, _, l), _))).
    let near = (is_within k i j).0 h in
    (is_within k (is_add i l) (is_add j l)).1 (record { above = omega arith; below = omega arith })))
    (whole_add z w) (≈F-refl (x +F whole w))

pub within_neg : {k : ℕ} {x y : Frac} → Within k x y → Within k (neg_f x) (neg_f y)
within_neg {k} {x} {y} h =
    at-common (x ∷ y ∷ [])
    (λ d ((_, _, i), ((_, _, j), _)).
    let near = (is_within k i j).0 h in
    (is_within k (is_negated i) (is_negated j)).1 (record { above = omega arith; below = omega arith }))

pub within_none : {x y : Frac} → x ≈F y → Within 0 x y
within_none {x} {y} e =
    at-common (x ∷ [])
    (λ d ((_, _, i), _). (is_within 0 i (is_same e i)).1 (record { above = omega arith; below = omega arith }))

-- The same whole number less each of the two.
pub within_rest : {k : ℕ} (w z : ℤ) {x : Frac} → Within k (whole z) x → Within k (whole (w -ℤ z)) (whole w -F x)
within_rest {k} w z {x} h =
    within_same
    (at-common (whole w ∷ whole z ∷ x ∷ [])
    (λ d ((_, _, l), ((_, _, i), ((_, _, j), _))).
    let near = (is_within k i j).0 h in
    (is_within k (is_sub l i) (is_sub l j)).1 (record { above = omega arith; below = omega arith })))
    (whole_sub w z) (≈F-refl (whole w -F x))

-- What two fractions take from a sum of whole numbers and from its first part.
pub rest_of_sum : (x z : ℤ) (b c : Frac) → (whole (x +ℤ z) -F c -F (whole x -F b)) ≈F (b +F whole z -F c)
rest_of_sum x z b c =
    at-common (b ∷ c ∷ [])
    (λ d ((_, _, i), ((_, _, j), _)).
    let first = is_whole x i.some in
    let sum = is_add first (is_whole z i.some) in
    (is_eq (is_sub (is_sub (is_same (whole_add x z) sum) j) (is_sub first i)) (is_sub (is_add i (is_whole z i.some)) j)).1 (omega arith))

-- A whole number t within D of another one, which lies within k of x, is at most D + k away from x,
pub close_through : {k : ℕ} (t z D : ℤ) {x : Frac} → pos (nat_abs (t -ℤ z)) ≤ℤ D → Within k (whole z) x → abs_f (whole t -F x) ≤F whole (D +ℤ pos k)
close_through {k} t z D {x} close h =
    at-common (x ∷ [])
    (λ d ((_, _, l), _).
    let near = (is_within k (is_whole z l.some) l).0 h in
    (is_le (is_abs (is_sub (is_whole t l.some) l)) (is_whole (D +ℤ pos k) l.some)).1
    (omega (
      arith,
      near.above,
      near.below,
      ap (λ (n : ℕ). d * n) (sub-parts-ℤ t z),
      ap (λ (n : ℕ). d * n) (abs_parts (t -ℤ z)),
      ap (λ (n : ℕ). d * n) (add_parts D (pos k)),
      mul-le-mul_left d (le_parts close),
    )))

-- and one that isn't within D is more than D - k away.
pub far_through : {k : ℕ} (t z D : ℤ) {x : Frac} → D <ℤ pos (nat_abs (t -ℤ z)) → Within k (whole z) x → whole (D -ℤ pos k) <F abs_f (whole t -F x)
far_through {k} t z D {x} far h = by_part (one_side (t -ℤ z))
  where
    one_side : (y : ℤ) → (up y ≡ 0) ⊎ (dn y ≡ 0)
    one_side (pos n) = inr refl
    one_side (negsuc n) = inl refl

    by_part : (up (t -ℤ z) ≡ 0) ⊎ (dn (t -ℤ z) ≡ 0) → whole (D -ℤ pos k) <F abs_f (whole t -F x)
    by_part part =
        at-common (x ∷ [])
        (λ d ((_, _, l), _).
        let near = (is_within k (is_whole z l.some) l).0 h in
        let difference = ap (λ (n : ℕ). d * n) (sub-parts-ℤ t z) in
        let size = ap (λ (n : ℕ). d * n) (abs_parts (t -ℤ z)) in
        let rest = ap (λ (n : ℕ). d * n) (sub-parts-ℤ D (pos k)) in
        let more = mul-lt-mul_of_pos_left (lt_parts far) l.some in
        (is_lt (is_whole (D -ℤ pos k) l.some) (is_abs (is_sub (is_whole t l.some) l))).1
        (⊎_elim (λ e. omega (arith, near.above, near.below, difference, size, rest, more, ap (λ (n : ℕ). d * n) e))
        (λ e. omega (arith, near.above, near.below, difference, size, rest, more, ap (λ (n : ℕ). d * n) e)) part))
