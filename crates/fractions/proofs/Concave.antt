-- Concave functions of the naturals, by three facts: they don't fall, no step rises by more than E, and secants fall to the right.
-- The facts are linear in the function, so sums and multiples of concave functions are concave.
use mathlib.Core.Path.{◌≡◌}
use mathlib.Core.Logic.{◌⊎◌, inl, inr}
use Prim.Native.Nat.{ℕ, ◌+◌, ◌*◌, ◌≤◌, min}
use native.Mathlib.Nat.{mul-le-mul_left, mul-le-mul_right, min-eq_left, min-eq_right, le_trans, le-add_right, le_dest}
use native.Mathlib.Omega.{arith}
use Rattle.fractions.proofs.Secant.{le_or_ge}

-- `flatter`: the secant over [x', x' + α'], both of whose ends lie to the right, is no steeper than that over [x, x + α], as products.
pub record Concave (E : ℕ) (f : ℕ → ℕ) : Type 0 where
  pub mono : (x α : ℕ) → f x ≤ f (x + α)
  pub steep : (x α : ℕ) → f (x + α) ≤ f x + E * α
  pub flatter : (x α x' α' : ℕ) → x ≤ x' → x + α ≤ x' + α' → α * f (x' + α') + α' * f x ≤ α' * f (x + α) + α * f x'

pub linear_concave : (t : ℕ) → Concave t (λ x. t * x)
linear_concave t = record { mono = λ x α. omega arith; steep = λ x α. omega arith; flatter = λ x α x' α' h k. omega arith }

pub sum_concave : {D E : ℕ} {f g : ℕ → ℕ} → Concave D f → Concave E g → Concave (D + E) (λ x. f x + g x)
sum_concave c k =
    record {
      mono = λ x α. omega (arith, c.mono x α, k.mono x α);
      steep = λ x α. omega (arith, c.steep x α, k.steep x α);
      flatter = λ x α x' α' h l. omega (arith, c.flatter x α x' α' h l, k.flatter x α x' α' h l);
    }

pub multiple_concave : {E : ℕ} {f : ℕ → ℕ} (v : ℕ) → Concave E f → Concave (v * E) (λ x. v * f x)
multiple_concave v c =
    record {
      mono = λ x α. mul-le-mul_left v (c.mono x α);
      steep = λ x α. omega (arith, mul-le-mul_left v (c.steep x α));
      flatter = λ x α x' α' h l. omega (arith, mul-le-mul_left v (c.flatter x α x' α' h l));
    }

-- The part of x that lies below L.
pub min_concave : (L : ℕ) → Concave 1 (λ x. min x L)
min_concave L =
    record {
      mono = λ x α. omega arith;
      steep = λ x α. omega arith;
      flatter = λ x α x' α' h k. go x α x' α' h k (le_or_ge (x + α) L) (le_or_ge L x');
    }
  where
    -- both ends of the first secant below L: it has slope 1; L below the second secant: it has slope 0; else L lies on both
    go : (x α x' α' : ℕ) → x ≤ x' → x + α ≤ x' + α' → (x + α ≤ L) ⊎ (L ≤ x + α) → (L ≤ x') ⊎ (x' ≤ L)
        → α * min (x' + α') L + α' * min x L ≤ α' * min (x + α) L + α * min x' L
    go x α x' α' h k (inl l) r =
        let one : min (x' + α') L ≤ min x' L + α' = omega arith in
        rw (min-eq_left l, min-eq_left (le_trans (le-add_right x α) l)) (omega (arith, mul-le-mul_left α one))
    go x α x' α' h k (inr l) (inl r) =
        let below : min x L ≤ L = omega arith in
        rw (min-eq_right r, min-eq_right (le_trans r (le-add_right x' α')), min-eq_right l) (omega (arith, mul-le-mul_left α' below))
    go x α x' α' h k (inr l) (inr r) =
        rw (min-eq_left r, min-eq_right (le_trans l k), min-eq_right l, min-eq_left (le_trans h r))
        (on_both (le_dest h) (le_dest r))
      where
        on_both : (a : ℕ) × (x + a ≡ x') → (b : ℕ) × (x' + b ≡ L) → α * L + α' * x ≤ α' * L + α * x'
        on_both (a, p) (b, q) =
            let steps : α ≤ α' + a = omega arith in
            let rest : b ≤ α' = omega arith in
            rw (← q, ← p) (omega (arith, mul-le-mul_right b steps, mul-le-mul_left a rest))
