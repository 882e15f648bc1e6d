-- The inequality behind every bound on a concave function's values: secants fall (SPEC 4.9). Products of naturals, no division, no slopes.
use mathlib.Core.Path.{◌≡◌}
use mathlib.Core.Logic.{◌⊎◌, inl, inr, ⊎_elim}
use Prim.Native.Nat.{ℕ, ◌+◌, ◌*◌, ◌≤◌}
use native.Mathlib.Nat.{mul-le-mul_left, le_of_mul-le-mul_left, le_dest, eq-zero-or-pos}
use native.Mathlib.Decide.{dec_le}
use native.Mathlib.Omega.{arith}

-- Which of two naturals comes first.
pub le_or_ge : (m n : ℕ) → (m ≤ n) ⊎ (n ≤ m)
le_or_ge m n = go (dec_le m n)
  where
    go : Dec (m ≤ n) → (m ≤ n) ⊎ (n ≤ m)
    go (yes h) = inl h
    go (no h) = inr (omega arith)

-- (b - a) (d - c) is not negative.
pub mul_gap : {a b c d : ℕ} → a ≤ b → c ≤ d → a * d + b * c ≤ b * d + a * c
mul_gap {a} {b} {c} {d} h k = go (le_dest h) (le_dest k)
  where
    go : (x : ℕ) × (a + x ≡ b) → (y : ℕ) × (c + y ≡ d) → a * d + b * c ≤ b * d + a * c
    go (x, p) (y, q) = rw (← p, ← q) (omega arith)

-- Gaps α, α' and rises τ, τ' over them, the second secant no steeper: α τ' ≤ τ α' ≤ τ (α + K - τ), and (α - τ)(K - τ) ≥ 0, so α τ' ≤ α K.
pub secant : (α τ α' τ' K : ℕ) → τ ≤ α → τ' ≤ α' → α * τ' ≤ τ * α' → α' + τ ≤ α + K → τ ≤ K → τ' ≤ K
secant α τ α' τ' K h1 h2 h3 h4 h5 =
    ⊎_elim (λ z. omega arith) (λ p. le_of_mul-le-mul_left {k = α} (omega (arith, mul-le-mul_left τ h4, mul_gap h1 h5)) p) (eq-zero-or-pos α)
