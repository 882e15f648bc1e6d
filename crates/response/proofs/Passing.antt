-- Limits lie above nought, so a trial passes at most the one of its own sign, and the branch of a flow says which.
use Prim.Native.Nat.{ℕ}
use mathlib.Core.Path.{◌≡◌, refl, ap}
use mathlib.Core.Bool.{Bool, true, false, false≢true}
use mathlib.Core.List.{[], ◌∷◌}
use mathlib.Core.Logic.{◌⊎◌, inl, inr, ⊎_elim, ◌↔◌}
use native.Mathlib.Omega.{arith}
use lib.IntN.{ℤ, pos, negsuc}
use Rattle.fractions.specs.Fraction.{Frac, ◌<F◌, ◌≈F◌, whole, neg_f}
use Rattle.fractions.proofs.Common.{is_whole, is_negated, is_lt, is_eq, at-common}
use Rattle.branch.specs.declared.Branch.TheVariants.{Tension, Compression}
use Rattle.branch.specs.Branches.{branch_number}
use Rattle.response.specs.Response.{flow_branch}

-- A trial of one sign passes no limit of the other.
module _ {R u : Frac} (high : whole (pos 0) <F R) where
  not_above_negative : (n : ℕ) → u ≈F whole (negsuc n) → ¬ (R <F u)
  not_above_negative n e l =
      at-common (R ∷ u ∷ [])
      (λ d ((_, _, r), ((_, _, i), _)).
      omega (arith, (is_lt r i).0 l, (is_eq i (is_whole (negsuc n) r.some)).0 e, (is_lt (is_whole (pos 0) r.some) r).0 high))

  not_above_negated : (n : ℕ) → u ≈F whole (pos n) → ¬ (R <F neg_f u)
  not_above_negated n e l =
      at-common (R ∷ u ∷ [])
      (λ d ((_, _, r), ((_, _, i), _)).
      omega (arith, (is_lt r (is_negated i)).0 l, (is_eq i (is_whole (pos n) r.some)).0 e, (is_lt (is_whole (pos 0) r.some) r).0 high))

module _ {R R' u : Frac} (high : whole (pos 0) <F R) (high' : whole (pos 0) <F R') where
  -- No trial passes both.
  pub passes_one_limit : R <F u → ¬ (R' <F neg_f u)
  passes_one_limit l l' =
      at-common (R ∷ R' ∷ u ∷ [])
      (λ d ((_, _, r), ((_, _, r'), ((_, _, i), _))).
      let nought = is_whole (pos 0) r.some in
      omega (arith, (is_lt r i).0 l, (is_lt r' (is_negated i)).0 l', (is_lt nought r).0 high, (is_lt nought r').0 high'))

  -- A flow is that of the limit which the trial passes; u is the trial s, whatever its denominator.
  pub branch_passes : (s : ℤ) → u ≈F whole s → (yielded : Bool) → (yielded ≡ true) ↔ ((R <F u) ⊎ (R' <F neg_f u))
      → ((flow_branch yielded s ≡ Tension) ↔ (R <F u)) × ((flow_branch yielded s ≡ Compression) ↔ (R' <F neg_f u))
  branch_passes (pos n) is true e = (
    (λ b. ⊎_elim (λ l. l) (λ l. absurd (not_above_negated high' n is l)) (e.0 refl), λ l. refl),
    (λ b. absurd (omega (arith, ap branch_number b)), λ l. absurd (not_above_negated high' n is l)),
  )
  branch_passes (pos n) is false e = (
    (λ b. absurd (omega (arith, ap branch_number b)), λ l. absurd (false≢true (e.1 (inl l)))),
    (λ b. absurd (omega (arith, ap branch_number b)), λ l. absurd (false≢true (e.1 (inr l)))),
  )
  branch_passes (negsuc n) is true e = (
    (λ b. absurd (omega (arith, ap branch_number b)), λ l. absurd (not_above_negative high n is l)),
    (λ b. ⊎_elim (λ l. absurd (not_above_negative high n is l)) (λ l. l) (e.0 refl), λ l. refl),
  )
  branch_passes (negsuc n) is false e = (
    (λ b. absurd (omega (arith, ap branch_number b)), λ l. absurd (false≢true (e.1 (inl l)))),
    (λ b. absurd (omega (arith, ap branch_number b)), λ l. absurd (false≢true (e.1 (inr l)))),
  )
