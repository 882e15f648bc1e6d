-- An answer told by its number (SPEC 8.8).
use Prim.Native.Nat.{ℕ}
use mathlib.Core.Path.{◌≡◌, refl, sym, ap, ◌∙◌}
use mathlib.Core.Bool.{Bool, true, false, cond}
use mathlib.Core.List.{List}
use borrow.Author.Tests.{eq-eqb, ne_eqb}
use lib.Dec.{eqb}
use Rattle.refusals.specs.Table.{Refusal, Answer, passes, refused, first_of}
use Rattle.refusals.proofs.FirstLaws.{refused_anyhow, passes_anyhow}

-- 0 says that the value passes.
abbrev pub numbered : {A : Type 0} → (number : ℕ) → A → Answer A
numbered number value = cond (eqb number 0) (passes value) (refused number)

-- What a number says.
module _ {A : Type 0} (n : ℕ) (value : A) {answer : Answer A} (is : numbered n value ≡ answer) where
  pub number_refused : (n ≡ 0 → ⊥) → answer ≡ refused n
  number_refused ne = sym is ∙ rw (ne_eqb n 0 ne)

  pub number_passes : n ≡ 0 → answer ≡ passes value
  number_passes e = sym is ∙ rw (eq-eqb n 0 e)

-- A number that tells a table's answer tells it beside any value.
pub told_anyhow : {A B : Type 0} (n : ℕ) (table : List Refusal) (v : A) (w : B) → numbered n v ≡ first_of table v → numbered n w ≡ first_of table w
told_anyhow n table v w e = by_number (eqb n 0) refl
  where
    by_number : (b : Bool) → eqb n 0 ≡ b → cond b (passes w) (refused n) ≡ first_of table w
    by_number true is = sym (passes_anyhow table v w (sym e ∙ ap (λ (t : Bool). cond t (passes v) (refused n)) is))
    by_number false is = sym (refused_anyhow table v w n (sym e ∙ ap (λ (t : Bool). cond t (passes v) (refused n)) is))
