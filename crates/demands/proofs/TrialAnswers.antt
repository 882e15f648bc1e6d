-- Demand 1 for trials and keepings (SPEC 16.7, 16.8): a trial answers as the single pair does, and a keeping by the trial's own number,
-- start and next state; of bytes that no trial wrote it makes what their places say.
use Prim.Native.Nat.{ℕ}
use mathlib.Core.Path.{◌≡◌, refl, sym, ap, subst, ◌∙◌}
use mathlib.Core.Bool.{Bool, true, false, ◌&&◌, and-false}
use mathlib.Core.List.{List, [], ◌∷◌}
use mathlib.Core.Logic.{◌⊎◌, inl, inr}
use native.Mathlib.Omega.{arith}
use borrow.Author.Tests.{eqb-true, eqb-false, eq-eqb, ne_eqb}
use lib.Dec.{eqb}
use lib.ListN.{length}
use Rattle.refusals.specs.Table.{Refusal, Answer, passes, refused, first_of, NoneApplies, Given, numbers_of}
use Rattle.refusals.proofs.FirstLaws.{number_given, both_hold, refused_given, given_refused, none_passes, passes_none_applies, passes_anyhow}
use Rattle.state.specs.States.{state_length}
use Rattle.trial.specs.Trials.{Trial, trial_leaves, next_in, same_bytes, keep_refusals, Kept, kept, keep_leaves}
use Rattle.trial.proofs.TrialLaws.{same_are, are_same, not_same, differ_not, trial_single, made_long, keep_made, keep_stops, keep_left, keep_handed}
use Rattle.demands.specs.Lists.{tried_in}
use Rattle.demands.specs.Trials.{TrialAnswered, KeepingReason, KeepingAnswered, AnythingOffered}

-- ---- Any bytes

module _ (trial offered next : List ℕ) where
  abbrev table : List Refusal
  table = keep_refusals trial offered (length next)

  some_number : {n : ℕ} → first_of table (next_in trial) ≡ refused n → n ≡ 0 → ⊥
  unfolding keep_refusals
  some_number e = (number_given table (next_in trial) refl e).0

  is_passed : {new : List ℕ} → first_of table (next_in trial) ≡ passes new → keep_leaves trial offered next ≡ kept 0 (next_in trial)
  is_passed e = keep_handed trial offered next (passes_anyhow table (next_in trial) (next_in trial) e)

  order : numbers_of table ≡ 12 ∷ 15 ∷ []
  unfolding keep_refusals
  order = refl

  pub anything_offered : AnythingOffered trial offered next
  anything_offered =
      record {
        order = order;
        exactly = λ number. ((λ is. by_answer number is (first_of table (next_in trial)) refl), back number);
        kept_back = λ ne. unwritten ne (first_of table (next_in trial)) refl;
        hands = λ e. handed e (first_of table (next_in trial)) refl;
      }
    where
      by_answer : (number : ℕ) → (keep_leaves trial offered next).number ≡ number → (a : Answer (List ℕ)) → first_of table (next_in trial) ≡ a
          → Given table number ⊎ (NoneApplies table × (number ≡ 0))
      by_answer number is (refused n) e =
          inl (subst (Given table) (sym (ap (λ (k : Kept). k.number) (keep_left trial offered next e)) ∙ is) (refused_given table (next_in trial) e))
      by_answer number is (passes new) e =
          inr (passes_none_applies table (next_in trial) e, sym is ∙ ap (λ (k : Kept). k.number) (is_passed e))

      back : (number : ℕ) → Given table number ⊎ (NoneApplies table × (number ≡ 0)) → (keep_leaves trial offered next).number ≡ number
      back number (inl g) = ap (λ (k : Kept). k.number) (keep_left trial offered next (given_refused table (next_in trial) g))
      back number (inr (none, is)) = ap (λ (k : Kept). k.number) (is_passed (none_passes table (next_in trial) none)) ∙ sym is

      unwritten : ((keep_leaves trial offered next).number ≡ 0 → ⊥) → (a : Answer (List ℕ)) → first_of table (next_in trial) ≡ a → (keep_leaves trial offered next).next ≡ next
      unwritten ne (refused n) e = ap (λ (k : Kept). k.next) (keep_left trial offered next e)
      unwritten ne (passes new) e = absurd (ne (ap (λ (k : Kept). k.number) (is_passed e)))

      handed : (keep_leaves trial offered next).number ≡ 0 → (a : Answer (List ℕ)) → first_of table (next_in trial) ≡ a → (keep_leaves trial offered next).next ≡ next_in trial
      handed none (refused n) e = absurd (some_number e (sym (ap (λ (k : Kept). k.number) (keep_left trial offered next e)) ∙ none))
      handed none (passes new) e = ap (λ (k : Kept). k.next) (is_passed e)

-- ---- A trial that was made

module _ (sheet start : List ℕ) (t : Trial) where
  pub trial_answered : TrialAnswered sheet start t
  trial_answered = record { same_as_single = trial_single sheet start t; long = made_long sheet start t }

  module _ (offered next : List ℕ) where
    abbrev leaves : Kept
    leaves = keep_leaves (trial_leaves sheet start t).bytes offered next

    abbrev tried : ℕ
    tried = (tried_in sheet start t).reply.number

    -- A buffer of another length is turned away first,
    no_room : (length next ≡ state_length → ⊥) → leaves ≡ kept 12 next
    no_room other = keep_left (trial_leaves sheet start t).bytes offered next (keep_stops (trial_leaves sheet start t).bytes offered (length next) other)

    -- then an accepted trial is kept from its own start,
    keeps_own : length next ≡ state_length → offered ≡ start → tried ≡ 0 → leaves ≡ kept 0 (tried_in sheet start t).next
    keeps_own long own none =
        let same : same_bytes offered start ≡ true = subst (λ (l : List ℕ). same_bytes l start ≡ true) (sym own) (are_same start) in
        keep_made sheet start t offered next long ∙ rw (eq-eqb tried 0 none, same)

    -- and no other is.
    keeps_none : length next ≡ state_length → (offered ≡ start → ⊥) ⊎ (tried ≡ 0 → ⊥) → leaves ≡ kept 15 next
    keeps_none long (inl differ) = keep_made sheet start t offered next long ∙ rw (not_same offered start differ, and-false (eqb tried 0))
    keeps_none long (inr some) = keep_made sheet start t offered next long ∙ rw (ne_eqb tried 0 some)

    -- There is a reason for the number that a keeping has,
    own_reason : KeepingReason sheet start t offered next leaves.number
    own_reason = by-buffer (eqb (length next) state_length) refl
      where
        one-fails : (a b : Bool) → eqb tried 0 ≡ a → same_bytes offered start ≡ b → a && b ≡ false → (offered ≡ start → ⊥) ⊎ (tried ≡ 0 → ⊥)
        one-fails true b number same e = inl (differ_not offered start (same ∙ e))
        one-fails false b number same e = inr (eqb-false tried 0 number)

        by-trial : length next ≡ state_length → (b : Bool) → eqb tried 0 && same_bytes offered start ≡ b → KeepingReason sheet start t offered next leaves.number
        by-trial long true e =
            let both = both_hold (eqb tried 0) (same_bytes offered start) e in
            let own = same_are offered start both.1 in
            let none = eqb-true tried 0 both.0 in
            inr (inr (record { long = long; own = own; accepted = none; is = ap (λ (k : Kept). k.number) (keeps_own long own none) }))
        by-trial long false e =
            let fails = one-fails (eqb tried 0) (same_bytes offered start) refl refl e in
            inr (inl (record { long = long; not_its_own = fails; is = ap (λ (k : Kept). k.number) (keeps_none long fails) }))

        by-buffer : (b : Bool) → eqb (length next) state_length ≡ b → KeepingReason sheet start t offered next leaves.number
        by-buffer true e = by-trial (eqb-true (length next) state_length e) (eqb tried 0 && same_bytes offered start) refl
        by-buffer false e =
            let other = eqb-false (length next) state_length e in
            inl (record { other = other; is = ap (λ (k : Kept). k.number) (no_room other) })

    -- and for no other.
    only_reason : (number : ℕ) → KeepingReason sheet start t offered next number → leaves.number ≡ number
    only_reason number (inl w) = ap (λ (k : Kept). k.number) (no_room w.other) ∙ sym w.is
    only_reason number (inr (inl w)) = ap (λ (k : Kept). k.number) (keeps_none w.long w.not_its_own) ∙ sym w.is
    only_reason number (inr (inr w)) = ap (λ (k : Kept). k.number) (keeps_own w.long w.own w.accepted) ∙ sym w.is

    -- A keeping with number 0 is of an accepted trial, from its start, and leaves its next state.
    pub record Keeps : Type 0 where
      pub own : offered ≡ start
      pub none : tried ≡ 0
      pub is : leaves.next ≡ (tried_in sheet start t).next

    pub kept_own : leaves.number ≡ 0 → Keeps
    kept_own e = by_reason own_reason
      where
        by_reason : KeepingReason sheet start t offered next leaves.number → Keeps
        by_reason (inl w) = absurd (omega (arith, e, w.is))
        by_reason (inr (inl w)) = absurd (omega (arith, e, w.is))
        by_reason (inr (inr w)) = record { own = w.own; none = w.accepted; is = ap (λ (k : Kept). k.next) (keeps_own w.long w.own w.accepted) }

    pub keeping_answered : KeepingAnswered sheet start t offered next
    keeping_answered =
        record {
          exactly = λ number. ((λ is. subst (KeepingReason sheet start t offered next) is own_reason), only_reason number);
          hands = λ e. (kept_own e).is;
          kept_back = (anything_offered (trial_leaves sheet start t).bytes offered next).kept_back;
        }
