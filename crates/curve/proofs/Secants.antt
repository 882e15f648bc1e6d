-- Secants of T fall to the right, where the tangents do: T is concave, over fractions. Assumes nothing.
use Prim.Native.Nat.{ℕ, ◌+◌, ◌-◌, ◌*◌, ◌≤◌, ◌<◌}
use mathlib.Core.Path.{◌≡◌}
use mathlib.Core.List.{[], ◌∷◌}
use native.Mathlib.Omega.{arith}
use lib.IntN.{pos}
use Rattle.fractions.specs.Fraction.{Frac, whole, ◌≤F◌, ◌-F◌, ◌*F◌}
use Rattle.fractions.proofs.Common.{Is, is_shift, is_whole, is_sub, is_mul, is_le, at-common}
use Rattle.curve.specs.Curve.{Curve, Falling, limit_f}
use Rattle.curve.proofs.Height.{height_concave}
use Rattle.curve.proofs.Limit.{is_limit}

module _ (E : ℕ) (some : 0 < E) (c : Curve) (falling : Falling E c.segments) where
  -- (y - x) (T(y') - T(x')) ≤ (y' - x') (T(y) - T(x)), where x' and y' lie to the right of x and y.
  pub limit_secants_fall : {x y x' y' : Frac} → whole (pos 0) ≤F x → x ≤F y → x' ≤F y' → x ≤F x' → y ≤F y'
      → ((y -F x) *F (limit_f E some c y' -F limit_f E some c x')) ≤F ((y' -F x') *F (limit_f E some c y -F limit_f E some c x))
  limit_secants_fall {x} {y} {x'} {y'} h xy xy' xx yy =
      at-common (x ∷ y ∷ x' ∷ y' ∷ [])
      (λ d ((_, _, i), ((_, _, j), ((_, _, i'), ((_, _, j'), _)))). go d _ _ _ _ _ _ _ _ i j i' j' ((is_le (is_whole (pos 0) i.some) i).0 h) ((is_le i j).0 xy) ((is_le i' j').0 xy') ((is_le i i').0 xx) ((is_le j j').0 yy))
    where
      go : (d p n q m p' n' q' m' : ℕ) → Is x p n d → Is y q m d → Is x' p' n' d → Is y' q' m' d → d * 0 + n ≤ p + d * 0 → p + m ≤ q + n → p' + m' ≤ q' + n' → p + n' ≤ p' + n → q + m' ≤ q' + m
          → ((y -F x) *F (limit_f E some c y' -F limit_f E some c x')) ≤F ((y' -F x') *F (limit_f E some c y -F limit_f E some c x))
      go d p n q m p' n' q' m' i j i' j' h xy xy' xx yy =
          let a = p - n in
          let a' = p' - n' in
          let α = q - m - (p - n) in
          let α' = q' - m' - (p' - n') in
          let gap : Is (y -F x) α 0 d = is_shift α 0 (omega arith) (is_sub j i) in
          let gap' : Is (y' -F x') α' 0 d = is_shift α' 0 (omega arith) (is_sub j' i') in
          let end : a + α ≡ q - m = omega arith in
          let end' : a' + α' ≡ q' - m' = omega arith in
          let concave = height_concave E (d * E) (d * c.yield) c.segments falling in
          (is_le (is_mul gap (is_sub (is_limit E some c j') (is_limit E some c i'))) (is_mul gap' (is_sub (is_limit E some c j) (is_limit E some c i)))).1
          (omega (arith, rw (end, end') at (concave.flatter a α a' α' (omega arith) (omega arith))))
