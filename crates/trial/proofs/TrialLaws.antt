-- Laws of a trial's bytes, and of the keeping that reads them (SPEC 16.3 to 16.5).
use Prim.Native.Nat.{ℕ, suc, ◌+◌}
use mathlib.Core.Path.{◌≡◌, refl, sym, ap, ap₂, subst, ◌∙◌}
use mathlib.Core.Bool.{Bool, true, false, not, ◌&&◌, and-false, false≢true, cond}
use mathlib.Core.List.{List, [], ◌∷◌, ◌++◌, append-nil}
use native.Mathlib.Omega.{arith}
use borrow.Author.Tests.{eqb-true, eqb-false, eq-eqb, ne_eqb, not-false}
use lib.Dec.{eqb}
use lib.ListN.{length, take, drop, set, length-append, length-drop, drop_of_length-le}
use lib.Seq.{take_at, drop_at, take_all}
use Rattle.std.specs.Cmp.Lexicographic.{pointwise}
use Rattle.std.specs.Prelude.{Option, Some}
use borrow.Rule.Slice.PartMut.{put_mid}
use Rattle.refusals.specs.Table.{Answer, passes, refused, first_of}
use Rattle.refusals.proofs.FirstLaws.{both_hold, passes_line}
use Rattle.refusals.specs.Reasons.{number_of}
use Rattle.refusals.specs.Reasons as reasons
use Rattle.refusals.specs.declared.Refused.{Refused}
use Rattle.refusals.proofs.ReasonLaws.{reason_numbered}
use Rattle.state.specs.States.{state_length}
use Rattle.tie_rod.specs.Calls.{Reply, Left, left, call_leaves}
use Rattle.tie_rod.proofs.Numbers.{Whole, accepted_whole}
use Rattle.trial.specs.Trials.{Trial, as_single, trial_length, trial_bytes, trial_left, trial_leaves, accepted_bytes, refused_bytes, number_in, start_in, next_in, same_bytes, keep_refusals, kept, kept_by, keep_leaves}

-- ---- Byte for byte

pub same_are : (a b : List ℕ) → same_bytes a b ≡ true → a ≡ b
unfolding same_bytes
same_are [] [] e = refl
same_are [] (y ∷ b) e = absurd (false≢true e)
same_are (x ∷ a) [] e = absurd (false≢true e)
same_are (x ∷ a) (y ∷ b) e =
    let both = both_hold (eqb x y) (same_bytes a b) e in
    let rest = same_are a b both.1 in
    λ i. eqb-true x y both.0 i ∷ rest i

pub are_same : (a : List ℕ) → same_bytes a a ≡ true
unfolding same_bytes
are_same [] = refl
are_same (x ∷ a) = rw (eq-eqb x x refl, are_same a)

pub not_same : (a b : List ℕ) → (a ≡ b → ⊥) → same_bytes a b ≡ false
not_same a b differ = by_test (same_bytes a b) refl
  where
    by_test : (t : Bool) → same_bytes a b ≡ t → same_bytes a b ≡ false
    by_test true e = absurd (differ (same_are a b e))
    by_test false e = e

pub differ_not : (a b : List ℕ) → same_bytes a b ≡ false → a ≡ b → ⊥
differ_not a b e same = false≢true (sym e ∙ subst (λ (l : List ℕ). same_bytes a l ≡ true) same (are_same a))

-- What `==` says of two slices of bytes.
pub pointwise_same : (a b : List ℕ) → pointwise eqb a b ≡ same_bytes a b
unfolding same_bytes
pointwise_same [] [] = refl
pointwise_same [] (y ∷ b) = refl
pointwise_same (x ∷ a) [] = refl
pointwise_same (x ∷ a) (y ∷ b) = ap (λ (t : Bool). eqb x y && t) (pointwise_same a b)

-- ---- What a trial writes

-- Number 0, the start, and the next state behind it.
pub accepted_written : (start next trial : List ℕ) → length start ≡ state_length → length next ≡ state_length → length trial ≡ trial_length
    → put_mid (1 + state_length) state_length (put_mid 1 state_length (set trial 0 0) start) next ≡ accepted_bytes start next
accepted_written start next [] starts nexts long = absurd (omega (arith, long))
accepted_written start next (x ∷ rest) starts nexts long =
    let behind = drop state_length rest in
    let front : take state_length (start ++ behind) ≡ start = take_at start behind state_length starts in
    let end : drop state_length (drop state_length (start ++ behind)) ≡ [] =
    ap (drop state_length) (drop_at start behind state_length starts) ∙ drop_of_length-le behind {i = state_length} (omega (arith, length-drop state_length rest, long)) in
    ap₂ (λ (f b : List ℕ). (0 ∷ f) ++ (next ++ b)) front end ∙ ap (λ (l : List ℕ). 0 ∷ (start ++ l)) (append-nil next)

-- The number of a call that was refused.
pub refused_told : {o : Option Refused} {r : Refused} (start next : List ℕ) → o ≡ Some r → refused_bytes (number_of r.reason) ≡ trial_bytes (reasons.number_in o) start next
refused_told {o} {r} start next e =
    let number : reasons.number_in o ≡ number_of r.reason = ap reasons.number_in e in
    rw (number, ne_eqb (number_of r.reason) 0 (reason_numbered r.reason).0)

-- What a trial leaves: the single pair's answer and buffers, and its own bytes.
pub tried_as : (sheet state : List ℕ) (t : Trial) {r : Reply} {rows next trial : List ℕ} → left r rows next ≡ call_leaves sheet state (as_single t)
    → trial ≡ trial_bytes r.number state next → trial_left (left r rows next) trial ≡ trial_leaves sheet state t
unfolding trial_leaves
tried_as sheet state t {r} {rows} {next} is e =
    ap (trial_left (left r rows next)) e ∙ ap (λ (l : Left). trial_left l (trial_bytes l.reply.number state l.next)) is

-- Answer, row and next state are the single pair's.
pub trial_single : (sheet state : List ℕ) (t : Trial) → (trial_leaves sheet state t).left ≡ call_leaves sheet state (as_single t)
unfolding trial_leaves
trial_single sheet state t = refl

-- ---- What a keeping answers

-- The two lines of its table, by what they test.
module _ (trial state : List ℕ) (next : ℕ) where
  abbrev answer : Answer (List ℕ)
  answer = first_of (keep_refusals trial state next) (next_in trial)

  pub keep_stops : (next ≡ state_length → ⊥) → answer ≡ refused 12
  unfolding keep_refusals first_of
  keep_stops ne = rw (ne_eqb next state_length ne)

  pub keep_decides : next ≡ state_length → answer ≡ cond (eqb (number_in trial) 0 && same_bytes state (start_in trial)) (passes (next_in trial)) (refused 15)
  unfolding keep_refusals first_of
  keep_decides long = rw (eq-eqb next state_length long) (by_test (eqb (number_in trial) 0 && same_bytes state (start_in trial)))
    where
      by_test : (t : Bool) → cond (not t) (refused 15) (passes (next_in trial)) ≡ cond t (passes (next_in trial)) (refused 15)
      by_test true = refl
      by_test false = refl

  module _ (long : next ≡ state_length) where
    -- The state that is offered isn't the trial's start,
    pub keep_elsewhere : same_bytes state (start_in trial) ≡ false → answer ≡ refused 15
    keep_elsewhere e = keep_decides long ∙ rw (e, and-false (eqb (number_in trial) 0))

    -- or the trial was refused,
    pub keep_refused : (number_in trial ≡ 0 → ⊥) → answer ≡ refused 15
    keep_refused ne = keep_decides long ∙ rw (ne_eqb (number_in trial) 0 ne)

    -- or it is kept.
    pub keep_kept : number_in trial ≡ 0 → same_bytes state (start_in trial) ≡ true → answer ≡ passes (next_in trial)
    keep_kept none e = keep_decides long ∙ rw (eq-eqb (number_in trial) 0 none, e)

  -- What is kept has a buffer to be kept in.
  pub kept_room : {new : List ℕ} → answer ≡ passes new → next ≡ state_length
  unfolding keep_refusals
  kept_room e = eqb-true next state_length (not-false (eqb next state_length) (passes_line 12 _ _ _ e).0)

-- What it leaves.
module _ (trial state next : List ℕ) where
  pub keep_left : {n : ℕ} → answer trial state (length next) ≡ refused n → keep_leaves trial state next ≡ kept n next
  unfolding keep_leaves
  keep_left e = ap (λ (a : Answer (List ℕ)). kept_by a next) e

  pub keep_handed : answer trial state (length next) ≡ passes (next_in trial) → keep_leaves trial state next ≡ kept 0 (next_in trial)
  unfolding keep_leaves
  keep_handed e = ap (λ (a : Answer (List ℕ)). kept_by a next) e

-- ---- A keeping of a trial that was made

module _ (sheet start : List ℕ) (t : Trial) where
  abbrev number : ℕ
  number = (trial_leaves sheet start t).left.reply.number

  abbrev made : List ℕ
  made = (trial_leaves sheet start t).bytes

  -- What an accepted trial's bytes are, and a refused one's.
  made_accepted : number ≡ 0 → made ≡ accepted_bytes start (trial_leaves sheet start t).left.next
  unfolding trial_leaves
  made_accepted none = rw (eq-eqb number 0 none)

  made_refused : (number ≡ 0 → ⊥) → made ≡ refused_bytes number
  unfolding trial_leaves
  made_refused some = rw (ne_eqb number 0 some)

  module _ (none : number ≡ 0) where
    made_whole : Whole sheet start (as_single t)
    unfolding trial_leaves
    made_whole = accepted_whole sheet start (as_single t) none

    next_long : length (trial_leaves sheet start t).left.next ≡ state_length
    unfolding trial_leaves
    next_long = made_whole.back

    made_start : start_in made ≡ start
    made_start = ap start_in (made_accepted none) ∙ take_at start (trial_leaves sheet start t).left.next state_length made_whole.given

    made_next : next_in made ≡ (trial_leaves sheet start t).left.next
    made_next =
        let next = (trial_leaves sheet start t).left.next in
        ap next_in (made_accepted none) ∙ ap (take state_length) (drop_at start next state_length made_whole.given) ∙ take_all state_length next (omega (arith, next_long))

  -- As long as the layout says, whatever the answer.
  pub made_long : length made ≡ trial_length
  made_long = by_number (eqb number 0) refl
    where
      by_number : (b : Bool) → eqb number 0 ≡ b → length made ≡ trial_length
      by_number true e =
          let none = eqb-true number 0 e in
          let next = (trial_leaves sheet start t).left.next in
          ap length (made_accepted none) ∙ ap suc (length-append start next) ∙ omega (arith, (made_whole none).given, next_long none)
      by_number false e = ap length (made_refused (eqb-false number 0 e))

  -- Its keeping goes by the trial's own number, start and next state.
  pub keep_made : (offered next : List ℕ) → length next ≡ state_length
      → keep_leaves made offered next ≡ cond (eqb number 0 && same_bytes offered start) (kept 0 (trial_leaves sheet start t).left.next) (kept 15 next)
  unfolding keep_leaves
  keep_made offered next long = by_number (eqb number 0) refl
    where
      by_test : (b : Bool) → kept_by (cond b (passes (trial_leaves sheet start t).left.next) (refused 15)) next ≡ cond b (kept 0 (trial_leaves sheet start t).left.next) (kept 15 next)
      by_test true = refl
      by_test false = refl

      by_number : (b : Bool) → eqb number 0 ≡ b
          → keep_leaves made offered next ≡ cond (b && same_bytes offered start) (kept 0 (trial_leaves sheet start t).left.next) (kept 15 next)
      by_number true e =
          let none = eqb-true number 0 e in
          let zero : number_in made ≡ 0 = ap number_in (made_accepted none) in
          let new = (trial_leaves sheet start t).left.next in
          let decides : first_of (keep_refusals made offered (length next)) (next_in made) ≡ cond (same_bytes offered start) (passes new) (refused 15) =
          keep_decides made offered (length next) long ∙ rw (eq-eqb (number_in made) 0 zero, made_start none, made_next none) in
          ap (λ (a : Answer (List ℕ)). kept_by a next) decides ∙ by_test (same_bytes offered start)
      by_number false e =
          let some = eqb-false number 0 e in
          keep_left made offered next (keep_refused made offered (length next) long (λ z. some (ap number_in (sym (made_refused some)) ∙ z)))
