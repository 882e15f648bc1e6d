-- How the rise over the segments goes on from one segment to the next. Assumes nothing.
use Prim.Native.Nat.{ℕ, ◌+◌, ◌-◌, ◌*◌, ◌≤◌, min}
use mathlib.Core.Path.{◌≡◌, refl}
use native.Mathlib.Nat.{min-eq_left}
use native.Mathlib.Omega.{arith}
use Rattle.curve.specs.Curve.{Segments, last, segment, rise}

module _ (w : ℕ) where
  pub rise_last : (t x : ℕ) → rise w (last t) x ≡ t * x
  unfolding rise
  rise_last t x = refl

  pub rise_zero : (segments : Segments) → rise w segments 0 ≡ 0
  unfolding rise
  rise_zero (last t) = omega arith
  rise_zero (segment length t rest) =
      let start : 0 - w * length ≡ 0 = omega arith in
      let none : min 0 (w * length) ≡ 0 = omega arith in
      rw (start, none, rise_zero rest) (omega arith)

  pub rise_within : (length t : ℕ) (rest : Segments) (x : ℕ) → x ≤ w * length → rise w (segment length t rest) x ≡ t * x
  unfolding rise
  rise_within length t rest x h =
      let start : x - w * length ≡ 0 = omega arith in
      rw (start, min-eq_left h, rise_zero rest) (omega arith)

  pub rise_beyond : (length t : ℕ) (rest : Segments) (x : ℕ)
      → rise w (segment length t rest) (w * length + x) ≡ t * (w * length) + rise w rest x
  unfolding rise
  rise_beyond length t rest x =
      let start : w * length + x - w * length ≡ x = omega arith in
      let all : min (w * length + x) (w * length) ≡ w * length = omega arith in
      rw (start, all)
