-- The points from the i-th on, and what is true where a walk over them has come to the i-th: the coefficient is settled by the point before
-- it and by those from it on. Assumes nothing.
use Prim.Native.Nat.{ℕ, suc, ◌+◌, ◌-◌, ◌≤◌, ◌<◌}
use mathlib.Core.Path.{◌≡◌, refl, sym, ap, ◌∙◌}
use mathlib.Core.Bool.{Bool, true, false, cond}
use mathlib.Core.List.{[], ◌∷◌}
use native.Mathlib.Numerals.{add-one}
use native.Mathlib.Decide.{dec_lt}
use native.Mathlib.Omega.{arith}
use lib.IntN.{ℤ, pos, neg_ℤ}
use lib.ListN.{length, drop, get_or, drop_of_length-le}
use lib.Seq.{drop-cons, get_or-take, length-take-le}
use lib.Signed.{le_z, lt_z}
use Rattle.std.proofs.lemmas.Int.{ints}
use Rattle.refusals.proofs.FirstLaws.{both_hold}
use Rattle.ranges.specs.Ranges.{temperature_right}
use Rattle.fractions.specs.Rounding.{floor_f}
use Rattle.expansion.specs.declared.Point.{Point}
use Rattle.expansion.specs.declared.Points.{Points}
use Rattle.expansion.specs.Points.{most_points, standing, no_place, point_right, PointsUsable}
use Rattle.expansion.specs.Coefficient.{line, behind, coefficient_in}
use Rattle.expansion.proofs.OrderTests.{reached_of_not}

-- Point i.
abbrev pub point_at : Points → ℕ → Point
point_at c i = get_or c.places i no_place

-- Point i is reached, or the end; `before` is the point before it, which the temperature has reached; behind that the coefficient lies.
pub record Reached (c : Points) (t : ℤ) (before : Point) (i : ℕ) : Type 0 where
  pub some : 0 < i
  pub index : i ≤ c.count
  pub is_point : before ≡ point_at c (i - 1)
  pub reached : le_z before.temperature.0 t ≡ true
  pub same : coefficient_in 0 (standing c) t ≡ behind before (drop i (standing c)) t

module _ (c : Points) (usable : PointsUsable c) where
  fits : c.count ≤ length c.places
  fits = omega (arith, usable.count_fits, usable.places)

  from_point : (i : ℕ) → i < c.count → drop i (standing c) ≡ point_at c i ∷ drop (suc i) (standing c)
  from_point i h =
      let taken = length-take-le c.count c.places fits in
      rw (drop-cons (standing c) i no_place (omega arith), get_or-take c.count c.places i no_place h)

  past_points : (i : ℕ) → c.count ≤ i → drop i (standing c) ≡ []
  past_points i h =
      let taken = length-take-le c.count c.places fits in
      drop_of_length-le (standing c) {i = i} (omega arith)

  -- the first point: up to it its own coefficient, else what lies behind it
  at_first : (t : ℤ) {b : Bool} → le_z t (point_at c 0).temperature.0 ≡ b
      → coefficient_in 0 (standing c) t ≡ cond b (pos (point_at c 0).coefficient.0) (behind (point_at c 0) (drop 1 (standing c)) t)
  unfolding coefficient_in
  at_first t test =
      let p = point_at c 0 in
      ap (λ l. coefficient_in 0 l t) (from_point 0 usable.some)
      ∙ ap (λ b. cond b (pos p.coefficient.0) (behind p (drop 1 (standing c)) t)) test

  pub up_to_first : (t : ℤ) → le_z t (point_at c 0).temperature.0 ≡ true → pos (point_at c 0).coefficient.0 ≡ coefficient_in 0 (standing c) t
  up_to_first t test = sym (at_first t test)

  pub begun : (t : ℤ) → le_z t (point_at c 0).temperature.0 ≡ false → Reached c t (point_at c 0) 1
  begun t test =
      record {
        some = omega arith;
        index = omega (arith, usable.some);
        is_point = refl;
        reached = reached_of_not t (point_at c 0).temperature.0 test;
        same = at_first t test;
      }

  module _ {t : ℤ} {before : Point} {i : ℕ} (r : Reached c t before i) where
    -- the next point: before it the line, from it on what lies behind it
    at_next : i < c.count → {b : Bool} → le_z (point_at c i).temperature.0 t ≡ b
        → coefficient_in 0 (standing c) t ≡ cond b (behind (point_at c i) (drop (suc i) (standing c)) t) (floor_f (line before (point_at c i) t))
    unfolding behind
    at_next h test =
        let q = point_at c i in
        r.same
        ∙ ap (λ l. behind before l t) (from_point i h)
        ∙ ap (λ b. cond b (behind q (drop (suc i) (standing c)) t) (floor_f (line before q t))) test

    pub before_next : i < c.count → lt_z t (point_at c i).temperature.0 ≡ true → floor_f (line before (point_at c i) t) ≡ coefficient_in 0 (standing c) t
    before_next h test =
        let before : le_z (point_at c i).temperature.0 t ≡ false = grind (arith, ints) in
        sym (at_next h before)

    pub onward : i < c.count → lt_z t (point_at c i).temperature.0 ≡ false → Reached c t (point_at c i) (i + 1)
    onward h test =
        let last : i + 1 - 1 ≡ i = omega arith in
        let reached : le_z (point_at c i).temperature.0 t ≡ true = grind (arith, ints) in
        record {
          some = omega arith;
          index = omega arith;
          is_point = rw last;
          reached = reached;
          same = rw (add-one i) (at_next h reached);
        }

    pub past_last : c.count ≤ i → pos before.coefficient.0 ≡ coefficient_in 0 (standing c) t
    unfolding behind
    past_last h = sym (r.same ∙ ap (λ l. behind before l t) (past_points i h))

pub right_before : {c : Points} {t : ℤ} {before : Point} {i : ℕ} → PointsUsable c → Reached c t before i → point_right before ≡ true
right_before {i} usable r = rw r.is_point (usable.points_right (i - 1) (omega (arith, r.some, r.index)))

-- A place that a temperature in range has reached holds a point.
pub holds_point : (c : Points) (t : ℤ) (i : ℕ) → PointsUsable c → temperature_right t ≡ true → i < most_points → le_z (point_at c i).temperature.0 t ≡ true → i < c.count
holds_point c t i usable right place reached = by_place (dec_lt i c.count)
  where
    by_place : Dec (i < c.count) → i < c.count
    by_place (yes h) = h
    by_place (no h) =
        let most = (both_hold (le_z (neg_ℤ (pos 2000)) t) (le_z t (pos 20000)) right).1 in
        let past : le_z (pos 20001) t ≡ true = sym (ap (λ (p : Point). le_z p.temperature.0 t) (usable.empty_behind i (omega arith) place)) ∙ reached in
        absurd (grind (arith, ints))
