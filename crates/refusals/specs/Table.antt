-- Tables of refusals, and which of their lines is answered (SPEC 8.1), cited wherever something can be refused; definitions only,
-- nothing is assumed.
use Rattle.std.specs.Prelude.{ℕ, ◌+◌, ◌*◌, ◌≡◌, Bool, true, false, cond, List, [], ◌∷◌, ◌++◌, map, ◌⊎◌, ◌↔◌}

-- SPEC 8.1: a line of a table, which is a number and whether its condition holds.
pub record Refusal : Type 0 where
  pub number : ℕ
  pub applies : Bool

-- SPEC 8.1: such a line, from number and condition.
abbrev pub refusal : ℕ → Bool → Refusal
refusal number applies = record { number = number; applies = applies }

-- SPEC 8.1: the numbers of a table, in its order.
abbrev pub numbers_of : List Refusal → List ℕ
numbers_of table = map (λ (r : Refusal). r.number) table

-- SPEC 8.7: the number that was taken out of the tables. No entry answers it, and no line is to have it again.
abbrev pub withdrawn : ℕ
withdrawn = 11

-- SPEC 8.1: what a table comes to. A value passes, or is refused with a number.
pub data Answer (A : Type 0) : Type 0 where
  passes : A → Answer A
  refused : ℕ → Answer A

-- SPEC 9.10: a number and a place as one number.
abbrev pub in_one_number : (number place : ℕ) → ℕ
in_one_number number place = number + 256 * place

-- SPEC 8.1: the number of the topmost line that applies; where there is none, the value passes.
unfoldable pub first_of : {A : Type 0} → List Refusal → A → Answer A
first_of [] value = passes value
first_of (r ∷ rest) value = cond r.applies (refused r.number) (first_of rest value)

-- SPEC 8.1: no line of a table applies.
abbrev pub NoneApplies : List Refusal → Type 0
NoneApplies [] = Unit {0}
NoneApplies (r ∷ rest) = (r.applies ≡ false) × NoneApplies rest

-- SPEC 8.1: a table gives a number where a line with it applies and no line above that one does.
pub record Given (table : List Refusal) (number : ℕ) : Type 0 where
  pub before : List Refusal
  pub line : Refusal
  pub after : List Refusal
  pub in_order : table ≡ before ++ (line ∷ after)
  pub none_before : NoneApplies before
  pub applies : line.applies ≡ true
  pub numbered : line.number ≡ number

-- SPEC 8.1: a table gives some number, or no line of it applies; nothing is left open.
abbrev pub Decided : List Refusal → Type 0
Decided table = ((n : ℕ) × Given table n) ⊎ NoneApplies table

-- SPEC 9.11: an answer is a number exactly where the table gives it, and passes with the value exactly where no line applies. Both
-- directions are claimed, so that no refusal is missed and none is made up.
pub record Follows {A : Type 0} (table : List Refusal) (value : A) (answer : Answer A) : Type 0 where
  pub decided : Decided table
  pub refused_where : (n : ℕ) → (answer ≡ refused n) ↔ Given table n
  pub passes_where : (answer ≡ passes value) ↔ NoneApplies table
