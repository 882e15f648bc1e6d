-- A tally over the first i members: how it grows by one, what it is in the end, and that there is room for every member.
use Prim.Native.Nat.{ℕ, zero, suc, ◌+◌, ◌≤◌, ◌<◌}
use native.Mathlib.Omega.{arith}
use mathlib.Core.Path.{◌≡◌, refl, sym, ap, ◌∙◌}
use mathlib.Core.Bool.{Bool, cond}
use mathlib.Core.List.{List, [], ◌∷◌}
use lib.ListN.{length, get_or, take}
use lib.Seq.{take_all}
use borrow.Author.Tests.{eq-eqb, ne_eqb}
use Rattle.std.specs.Prelude.{eqb, Err}
use Rattle.refusals.specs.declared.Refused.{Refused}
use Rattle.refusals.specs.Reasons.{number_of}
use Rattle.refusals.proofs.ReasonLaws.{reason_numbered}
use Rattle.section.specs.declared.Member.{Member}
use Rattle.section.specs.declared.Movement.{Movement}
use Rattle.section.specs.Tallies.{Tally, tally_meaning, GoesOn, tally_of, tally_all, next_all, settled_after}
use Rattle.section.proofs.SectionLaws.{fewer, ready_step}

module _ (x : Movement) where
  unfoldable pub tally_to : ℕ → Tally → List Member → Tally
  tally_to i t ms = tally_all x t (take i ms)

  pub tally_to_none : (t : Tally) (ms : List Member) → tally_to 0 t ms ≡ t
  unfolding tally_to tally_all
  tally_to_none t ms = refl

  -- Member i is looked at next.
  tally_to_next : (i : ℕ) (t : Tally) (ms : List Member) (d : Member) → i < length ms
      → tally_of x (tally_to i t ms) (get_or ms i d) ≡ tally_to (suc i) t ms
  unfolding tally_to tally_all
  tally_to_next i t [] d l = absurd (omega arith)
  tally_to_next zero t (m ∷ ms) d l = refl
  tally_to_next (suc i) t (m ∷ ms) d l = tally_to_next i (tally_of x t m) ms d (omega arith)

  pub tally_to_more : (i : ℕ) (t : Tally) (ms : List Member) (d : Member) → i < length ms
      → tally_of x (tally_to i t ms) (get_or ms i d) ≡ tally_to (i + 1) t ms
  tally_to_more i t ms d l = tally_to_next i t ms d l ∙ ap (λ (k : ℕ). tally_to k t ms) (omega arith)

  pub tally_to_all : (i : ℕ) (t : Tally) (ms : List Member) → length ms ≤ i → tally_to i t ms ≡ tally_all x t ms
  unfolding tally_to
  tally_to_all i t ms l = ap (tally_all x t) (take_all i ms l)

  -- With room for all members there is room for each when it comes.
  pub ready_to : (i : ℕ) (t : Tally) (ms : List Member) → GoesOn (length ms) t → i < length ms → GoesOn 1 (tally_to i t ms)
  unfolding tally_to tally_all
  ready_to i t [] r l = absurd (omega arith)
  ready_to zero t (m ∷ ms) r l = fewer t (suc (length ms)) 1 (omega arith) r
  ready_to (suc i) t (m ∷ ms) r l = ready_to i (tally_of x t m) ms (ready_step x t m (length ms) r) (omega arith)

  -- What the members are afterwards: moved where no number was given, and else as they were.
  pub settled_moved : (t : Tally) (ms : List Member) → (tally_all x t ms).number ≡ 0 → next_all x ms ≡ settled_after x t ms
  unfolding settled_after
  settled_moved t ms e = sym (ap (λ (y : Bool). cond y (next_all x ms) ms) (eq-eqb (tally_all x t ms).number 0 e))

  pub settled_kept : (t : Tally) (ms : List Member) (r : Refused) → tally_meaning (Err r) ≡ tally_all x t ms → ms ≡ settled_after x t ms
  unfolding settled_after
  settled_kept t ms r e =
      sym (ap (λ (y : Tally). cond (eqb y.number 0) (next_all x ms) ms) (sym e) ∙ rw (ne_eqb (number_of r.reason) 0 (reason_numbered r.reason).0))
