-- The floor of d * t / e, also from the quotient and the remainder of d by e apart, and that it isn't above d. Assumes nothing.
use Prim.Native.Nat.{ℕ, ◌+◌, ◌*◌, ◌/◌, ◌%◌, ◌≤◌, ◌<◌}
use mathlib.Core.Path.{◌≡◌, sym, ◌∙◌, ap}
use native.Mathlib.Nat.{div-add-mod', add-mul, mul_right_comm, mul-add-div_right, div-le_of_le-mul, mul-le-mul_left, mul_comm}

pub in_parts : (d t e : ℕ) → 0 < e → d / e * t + d % e * t / e ≡ d * t / e
in_parts d t e h =
    sym (mul-add-div_right h (d / e * t) (d % e * t)) ∙ ap (λ (n : ℕ). n / e)
    (ap (λ (n : ℕ). n + d % e * t) (mul_right_comm (d / e) t e) ∙ sym (add-mul (d / e * e) (d % e) t) ∙ ap (λ (n : ℕ). n * t) (div-add-mod' d e))

pub floor_at_most : (d t e : ℕ) → t ≤ e → d * t / e ≤ d
floor_at_most d t e k = div-le_of_le-mul e (rw (mul_comm e d) (mul-le-mul_left d k))
