-- What demand 1 claims of trials and keepings (SPEC 16.7, 16.8), cited by Demands; of a keeping's reasons it speaks over the trial that was
-- made and not over its bytes. Definitions only, over what they leave and never over the program; nothing is assumed.
use Rattle.std.specs.Prelude.{ℕ, ◌≡◌, List, [], ◌∷◌, ◌⊎◌, ◌↔◌, length}
use Rattle.refusals.specs.Table.{NoneApplies, Given, numbers_of}
use Rattle.state.specs.States.{state_length}
use Rattle.tie_rod.specs.Calls.{call_leaves}
use Rattle.trial.specs.Trials.{Trial, as_single, trial_length, trial_leaves, next_in, keep_refusals, keep_leaves}
use Rattle.demands.specs.Lists.{tried_in}

-- SPEC 16.7: a trial answers, and leaves row and next state, as the single pair on the same bytes and buffers does, by its definition, so
-- that CallAnswered speaks of it; and the bytes for a keeping are as many as its layout has, whatever the answer.
pub record TrialAnswered (sheet state : List ℕ) (t : Trial) : Type 0 where
  pub same_as_single : tried_in sheet state t ≡ call_leaves sheet state (as_single t)
  pub long : length (trial_leaves sheet state t).bytes ≡ trial_length

-- SPEC 16.7: why a keeping of a trial that started from `start` has its number.
module _ (sheet start : List ℕ) (t : Trial) (offered next : List ℕ) where
  -- The lent buffer isn't as long as a state.
  pub record ByBuffer (number : ℕ) : Type 0 where
    pub other : length next ≡ state_length → ⊥
    pub is : number ≡ 12

  -- It is, and the trial had started from another state than the one offered, or had a number itself.
  pub record ByTrial (number : ℕ) : Type 0 where
    pub long : length next ≡ state_length
    pub not_its_own : (offered ≡ start → ⊥) ⊎ ((tried_in sheet start t).reply.number ≡ 0 → ⊥)
    pub is : number ≡ 15

  -- The trial was accepted from the very state that is offered.
  pub record ByItsOwn (number : ℕ) : Type 0 where
    pub long : length next ≡ state_length
    pub own : offered ≡ start
    pub accepted : (tried_in sheet start t).reply.number ≡ 0
    pub is : number ≡ 0

  -- One of these three, and there is no other way.
  abbrev pub KeepingReason : (number : ℕ) → Type 0
  KeepingReason number = ByBuffer number ⊎ (ByTrial number ⊎ ByItsOwn number)

-- SPEC 16.7: a keeping of a trial has a number exactly where there is a reason for it, hands the trial's next state on where that is 0, and
-- else writes nothing.
pub record KeepingAnswered (sheet start : List ℕ) (t : Trial) (offered next : List ℕ) : Type 0 where
  pub exactly : (number : ℕ) → ((keep_leaves (trial_leaves sheet start t).bytes offered next).number ≡ number) ↔ KeepingReason sheet start t offered next number
  pub hands : (keep_leaves (trial_leaves sheet start t).bytes offered next).number ≡ 0
      → (keep_leaves (trial_leaves sheet start t).bytes offered next).next ≡ (tried_in sheet start t).next
  pub kept_back : ((keep_leaves (trial_leaves sheet start t).bytes offered next).number ≡ 0 → ⊥)
      → (keep_leaves (trial_leaves sheet start t).bytes offered next).next ≡ next

-- SPEC 16.8: a keeping of any bytes, whoever wrote them: 12 and then 15, with no byte written, or the next state that stands in them.
pub record AnythingOffered (trial offered next : List ℕ) : Type 0 where
  pub order : numbers_of (keep_refusals trial offered (length next)) ≡ 12 ∷ 15 ∷ []
  pub exactly : (number : ℕ) → ((keep_leaves trial offered next).number ≡ number)
      ↔ (Given (keep_refusals trial offered (length next)) number ⊎ (NoneApplies (keep_refusals trial offered (length next)) × (number ≡ 0)))
  pub hands : (keep_leaves trial offered next).number ≡ 0 → (keep_leaves trial offered next).next ≡ next_in trial
  pub kept_back : ((keep_leaves trial offered next).number ≡ 0 → ⊥) → (keep_leaves trial offered next).next ≡ next
