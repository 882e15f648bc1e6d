-- The line through two points at a temperature between them: over the way from one to the other, each coefficient is weighted by the way to
-- the other point, and everything fits 64 bits. Assumes nothing.
use Prim.Native.Nat.{ℕ, ◌+◌, ◌*◌, ◌/◌, ◌≤◌, ◌<◌, min, max}
use mathlib.Core.Path.{◌≡◌, refl, sym, ap, ◌∙◌}
use mathlib.Core.Bool.{true}
use native.Mathlib.Nat.{mul-le-mul_right, div-le_of_le-mul, le-div_iff_mul-le, mul-div_right, min-le_left, min-le_right, le-max_left, le-max_right}
use native.Mathlib.Omega.{arith}
use lib.IntN.{ℤ, pos, nat_abs, ◌-ℤ◌, ◌*ℤ◌, +ℤ_invr}
use lib.Signed.{le_z, lt_z, ◌≤ℤ◌}
use Rattle.std.proofs.lemmas.Int.{ints}
use Rattle.units.proofs.Magnitudes.{difference_from}
use Rattle.ranges.specs.Ranges.{most_expansion}
use Rattle.fractions.specs.Rounding.{floor_f}
use Rattle.fractions.proofs.UpDown.{sub-parts-ℤ, mul_parts, le_of_parts}
use Rattle.fractions.proofs.Common.{Is, is_whole, is_ratio, is_add, is_shift}
use Rattle.fractions.proofs.Rounded.{floor_quotient, floor_only}
use Rattle.expansion.specs.declared.Point.{Point}
use Rattle.expansion.specs.Points.{point_right}
use Rattle.expansion.specs.Coefficient.{line}
use Rattle.expansion.proofs.PointRanges.{temperature_most, coefficient_most}

-- The temperature lies x past the first point and y before the second.
pub record Ways (p q : Point) (t : ℤ) (x y : ℕ) : Type 0 where
  pub past : pos x ≡ t -ℤ p.temperature.0
  pub rest : pos y ≡ q.temperature.0 -ℤ t
  pub some : 0 < x + y

-- The two ways of a temperature from the first point on and up to the second.
pub ways_between : (p q : Point) (t : ℤ) → le_z p.temperature.0 t ≡ true → le_z t q.temperature.0 ≡ true → lt_z p.temperature.0 q.temperature.0 ≡ true
    → Ways p q t (nat_abs (t -ℤ p.temperature.0)) (nat_abs (q.temperature.0 -ℤ t))
ways_between p q t from to rise =
    record {
      past = difference_from t p.temperature.0 from;
      rest = difference_from q.temperature.0 t to;
      some = grind (arith, ints);
    }

module _ (p q : Point) (t : ℤ) (x y : ℕ) (w : Ways p q t x y) where
  span_is : nat_abs (q.temperature.0 -ℤ p.temperature.0) ≡ x + y
  span_is = omega (arith, ints, w.past, w.rest)

  pub line_is : Is (line p q t) (p.coefficient.0 * y + q.coefficient.0 * x) 0 (x + y)
  unfolding line
  line_is =
      let a = p.coefficient.0 in
      let b = q.coefficient.0 in
      let rise = pos b -ℤ pos a in
      rw (← w.past, span_is)
      (is_shift (a * y + b * x) 0
      (omega (arith, mul_parts rise (pos x), ap (λ (n : ℕ). n * x) (sub-parts-ℤ (pos b) (pos a))))
      (is_add (is_whole (pos a) w.some) (is_ratio (rise *ℤ pos x) (x + y) w.some)))

  pub line_floor : (weighted : ℕ) → weighted ≡ p.coefficient.0 * y + q.coefficient.0 * x → pos (weighted / (x + y)) ≡ floor_f (line p q t)
  line_floor weighted e = rw e (floor_only (pos ((p.coefficient.0 * y + q.coefficient.0 * x) / (x + y))) (floor_quotient line_is))

  -- Between its ends the line runs between the two coefficients.
  pub line_lies : (pos (min p.coefficient.0 q.coefficient.0) ≤ℤ floor_f (line p q t)) × (floor_f (line p q t) ≤ℤ pos (max p.coefficient.0 q.coefficient.0))
  line_lies =
      let a = p.coefficient.0 in
      let b = q.coefficient.0 in
      let weighted = a * y + b * x in
      let least : min a b * (x + y) ≤ weighted = omega (arith, mul-le-mul_right y (min-le_left a b), mul-le-mul_right x (min-le_right a b)) in
      let most : weighted ≤ (x + y) * max a b = omega (arith, mul-le-mul_right y (le-max_left a b), mul-le-mul_right x (le-max_right a b)) in
      rw (← line_floor weighted refl) (
        le_of_parts (pos (min a b)) (pos (weighted / (x + y))) (omega (arith, (le-div_iff_mul-le w.some).1 least)),
        le_of_parts (pos (weighted / (x + y))) (pos (max a b)) (omega (arith, div-le_of_le-mul (x + y) most)),
      )

-- At its ends it is at the two coefficients.
module _ (p q : Point) (rise : lt_z p.temperature.0 q.temperature.0 ≡ true) where
  whole_way : 0 < nat_abs (q.temperature.0 -ℤ p.temperature.0)
  whole_way = grind (arith, ints)

  whole_way_is : pos (nat_abs (q.temperature.0 -ℤ p.temperature.0)) ≡ q.temperature.0 -ℤ p.temperature.0
  whole_way_is = grind (arith, ints)

  pub line_at_first : floor_f (line p q p.temperature.0) ≡ pos p.coefficient.0
  line_at_first =
      let a = p.coefficient.0 in
      let tp = p.temperature.0 in
      let way = nat_abs (q.temperature.0 -ℤ tp) in
      let w : Ways p q tp 0 way = record { past = sym (+ℤ_invr tp); rest = whole_way_is; some = omega (arith, whole_way) } in
      sym (line_floor p q tp 0 way w ((0 + way) * a) (omega arith)) ∙ ap pos (mul-div_right a w.some)

  pub line_at_second : floor_f (line p q q.temperature.0) ≡ pos q.coefficient.0
  line_at_second =
      let b = q.coefficient.0 in
      let tq = q.temperature.0 in
      let way = nat_abs (tq -ℤ p.temperature.0) in
      let w : Ways p q tq way 0 = record { past = whole_way_is; rest = sym (+ℤ_invr tq); some = omega (arith, whole_way) } in
      sym (line_floor p q tq way 0 w ((way + 0) * b) (omega arith)) ∙ ap pos (mul-div_right b w.some)

-- The two points lie within their ranges, and the temperature from the first on and before the second.
pub record Between (p q : Point) (t : ℤ) : Type 0 where
  pub from : le_z p.temperature.0 t ≡ true
  pub before : lt_z t q.temperature.0 ≡ true
  pub right : point_right p ≡ true
  pub right' : point_right q ≡ true

module _ {p q : Point} {t : ℤ} (b : Between p q t) where
  pub temperatures_most : (nat_abs t ≤ 20000) × (nat_abs p.temperature.0 ≤ 20000) × (nat_abs q.temperature.0 ≤ 20000)
  temperatures_most =
      let first = temperature_most p b.right in
      let second = temperature_most q b.right' in
      let from = b.from in
      let before = b.before in
      (grind (arith, ints), first, second)

  pub between_ways : Ways p q t (nat_abs (t -ℤ p.temperature.0)) (nat_abs (q.temperature.0 -ℤ t))
  between_ways =
      let from = b.from in
      let before = b.before in
      ways_between p q t from (grind (arith, ints)) (grind (arith, ints))

  pub weighted_most : (m : ℕ) → (p.coefficient.0 * m ≤ most_expansion * m) × (q.coefficient.0 * m ≤ most_expansion * m)
  weighted_most m = (mul-le-mul_right m (coefficient_most p b.right), mul-le-mul_right m (coefficient_most q b.right'))

  module _ (x y : ℕ) (past : pos x ≡ t -ℤ p.temperature.0) (rest : pos y ≡ q.temperature.0 -ℤ t) where
    pub ways : Ways p q t x y
    ways =
        let before = b.before in
        record { past = past; rest = rest; some = grind (arith, ints) }

    pub ways_most : (x ≤ 40000) × (y ≤ 40000)
    ways_most =
        let most = temperatures_most in
        (omega (arith, ints), omega (arith, ints))

    pub line_most : (weighted : ℕ) → weighted ≡ p.coefficient.0 * y + q.coefficient.0 * x → weighted / (x + y) ≤ most_expansion
    line_most weighted e = div-le_of_le-mul (x + y) (omega (arith, weighted_most x, weighted_most y))
