-- What the stored rod and the bar without rounding do on one side are such moves.
use mathlib.Core.Path.{◌≡◌, ap}
use mathlib.Core.List.{[], ◌∷◌}
use mathlib.Core.Logic.{inl, inr}
use Prim.Native.Nat.{ℕ, ◌+◌, ◌-◌, ◌*◌, ◌<◌}
use native.Mathlib.Nat.{lt_of_mul-lt-mul_left}
use native.Mathlib.Omega.{arith}
use borrow.Author.Tests.{leb-true, leb-false}
use lib.Dec.{leb}
use lib.IntN.{pos}
use Rattle.fractions.specs.Fraction.{Frac, ◌≤F◌, ◌<F◌, whole}
use Rattle.fractions.proofs.Common.{Is, is_whole, is_whole_one, is_add, is_sub, is_le, is_lt, at-common}
use Rattle.fractions.proofs.Comparison.{≤F-refl, ≤F-trans, ≈F-refl}
use Rattle.fractions.proofs.Cases.{cond_cases}
use Rattle.fractions.proofs.Rounded.{is_floor, floor_passed}
use Rattle.bits.specs.Field.{flag}
use Rattle.flow.specs.Side.{Side, Hardens}
use Rattle.flow.specs.Solution.{flowed}
use Rattle.flow.specs.Rounded.{LimitRounded}
use Rattle.flow.specs.Stored.{SideStored, side_stored}
use Rattle.flow.proofs.OneSide.{accumulated_mono}
use Rattle.accuracy.proofs.Move.{Flows, Move}

-- The bar past its limit.
pub exact_flows : {side : Side} → Hardens side → {x a : Frac} → side.yield ≤F a → side.limit a <F x
    → Flows side 0 x a (side.limit (flowed side x a)) (flowed side x a)
exact_flows {side} curve {x} {a} p h =
    at-common (x ∷ a ∷ side.limit a ∷ side.limit b ∷ [])
    (λ d ((_, _, i), ((_, _, j), ((_, _, r), ((_, _, s), _)))).
    let over = (is_lt r i).0 h in
    let zero = is_whole (pos 0) i.some in
    let to = is_add j (is_sub i r) in
    record {
      passes = h;
      inside = ≤F-refl (side.limit b);
      rounded = (is_le s (is_add s zero)).1 (omega arith);
      lower = (is_le s i).1 (omega (arith, (is_le (is_sub j r) (is_sub to s)).0 (accumulated_mono curve p ((is_le j to).1 (omega arith)))));
      least = (is_le (is_add j i) (is_add to r)).1 (omega arith);
      most = (is_le (is_add to r) (is_add (is_add j i) zero)).1 (omega arith);
    })
  where
    b : Frac
    b = flowed side x a

module _ {side : Side} (curve : Hardens side) {limit : ℕ → ℕ} (floor : (a : ℕ) → LimitRounded side (pos a) (limit a)) (A m : ℕ)
    (p : side.yield ≤F whole (pos A)) where
  stored_flows : (e : ℕ) → limit A + e ≡ m → 0 < e
      → Flows side 1 (whole (pos m)) (whole (pos A)) (whole (pos (limit (A + e)))) (whole (pos (A + e)))
  stored_flows e h l =
      at-common (side.limit (whole (pos A)) ∷ side.limit (whole (pos (A + e))) ∷ [])
      (λ d ((_, _, r), ((_, _, s), _)).
      let number : (n : ℕ) → Is (whole (pos n)) (d * n) (d * 0) d = λ n. is_whole (pos n) r.some in
      let (low, high) = (is_floor r (pos (limit A))).0 (floor A).floor in
      let (low', high') = (is_floor s (pos (limit (A + e)))).0 (floor (A + e)).floor in
      let trial = ap (λ (n : ℕ). d * n) h in
      let on : whole (pos A) ≤F whole (pos (A + e)) = (is_le (number A) (number (A + e))).1 (omega arith) in
      let gentle = (is_le (is_sub (number A) r) (is_sub (number (A + e)) s)).0 (accumulated_mono curve p on) in
      let lower : limit (A + e) < m + 1 = lt_of_mul-lt-mul_left d (omega arith) in
      record {
        passes = (floor_passed (floor A).floor m).1 (omega arith);
        inside = (floor (A + e)).floor.below;
        rounded = (is_le s (is_add (number (limit (A + e))) (number 1))).1 (omega arith);
        lower = (is_le (is_whole_one (pos (limit (A + e)))) (is_whole_one (pos m))).1 (omega arith);
        least = (is_le (is_add (number A) (number m)) (is_add (number (A + e)) r)).1 (omega arith);
        most = (is_le (is_add (number (A + e)) r) (is_add (is_add (number A) (number m)) (number 1))).1 (omega arith);
      })

  pub stored_move : let stored = side_stored limit m A in
      Move side (flag stored.yielded) (whole (pos m)) (whole (pos A)) (whole (pos stored.magnitude)) (whole (pos stored.abscissa))
  unfolding side_stored
  stored_move =
      cond_cases (λ (r : SideStored). Move side (flag r.yielded) (whole (pos m)) (whole (pos A)) (whole (pos r.magnitude))
      (whole (pos r.abscissa)))
      (leb m (limit A)) _ _
      (λ t. inl (record {
        within = ≤F-trans ((is_le (is_whole_one (pos m)) (is_whole_one (pos (limit A)))).1 (omega (arith, leb-true m (limit A) t)))
            (floor A).floor.below;
        magnitude = ≈F-refl (whole (pos m));
        abscissa = ≈F-refl (whole (pos A));
      }))
      (λ t. let passed = leb-false m (limit A) t in inr (stored_flows (m - limit A) (omega arith) (omega arith)))
