-- Lists of calls, of trials and keepings too, as a fold over situations, and demand 3 as one claim over a whole list (SPEC 11.1 to 11.6,
-- 11.8 to 11.11, 11.13 to 11.16), cited by proofs/Demands; definitions only, over what each leaves and never over the program, nothing is
-- assumed.
use Rattle.std.specs.Prelude.{ℕ, ◌+◌, ◌-◌, ◌*◌, ◌≤◌, ◌<◌, ◌≡◌, cond, List, [], ◌∷◌, ◌++◌, map, length, take, replicate, eqb}
use Rattle.refusals.specs.Table.{NoneApplies}
use Rattle.bits.specs.Field.{flag}
use Rattle.pair.specs.declared.Pair.{Pair}
use Rattle.pair.specs.Pairs.{pair_of, pair_length}
use Rattle.row.specs.declared.Row.{Row}
use Rattle.row.specs.Rows.{row_of, row_length}
use Rattle.sheet.specs.Sheets.{sheet_of}
use Rattle.sheet.specs.Sound.{SheetSound}
use Rattle.state.specs.States.{state_of, state_length}
use Rattle.carry.specs.Walk.{yielded_rows}
use Rattle.accuracy.specs.Within.{Marked, AtStop}
use Rattle.judge.specs.Standing.{standing_refusals}
use Rattle.tie_rod.specs.Calls.{Call, call, run, pieces, piece_at, count_in, Left, call_leaves}
use Rattle.trial.specs.Trials.{Trial, as_single, trial_leaves, Kept, keep_leaves}

-- SPEC 11.14: a keeping in a list: of a trial that may have been given any state, and with what its lent buffer holds before it.
pub record Keeping : Type 0 where
  pub start : List ℕ
  pub trial : Trial
  pub next : List ℕ

-- SPEC 11.1: what a list is made of. A single pair or a run carries the rod on, a trial tries a pair, a keeping keeps a trial.
pub data Operation : Type 0 where
  carries : Call → Operation
  tries : Trial → Operation
  keeps : Keeping → Operation

-- SPEC 11.4, 11.13: a situation is what a list has come to: the state that the next call, trial or keeping is given; the history, which is
-- the papers' term for all pairs that the rod has been carried over, in order; and the rows written for them.
pub record Situation : Type 0 where
  pub state : List ℕ
  pub history : List Pair
  pub rows : List Row

-- SPEC 11.1, 11.13: where a list begins: the bytes of the sheet's unused rod, no pair and no row.
abbrev pub begins : (unused : List ℕ) → Situation
begins unused = record { state = unused; history = []; rows = [] }

-- SPEC 11.3: how many of a call's pairs were accepted, read off its number and place alone: all of them, or those before the refused one.
-- Where a call is refused before its pairs its place is 0, and none was.
abbrev pub accepted_by : (number place pairs : ℕ) → ℕ
accepted_by number place pairs = cond (eqb number 0) pairs (place - 1)

-- SPEC 9.3, 16.2: the row of a single pair or a trial that is accepted.
abbrev pub row_in : Left → Row
row_in l = row_of (take row_length l.rows)

-- All of a list is on one sheet.
module _ (sheet : List ℕ) where
  -- SPEC 11.3: the same of a call that is given this state.
  unfoldable pub accepted_in : (state : List ℕ) → Call → ℕ
  accepted_in state c = let reply = (call_leaves sheet state c).reply in accepted_by reply.number reply.place (count_in c.pairs)

  -- SPEC 11.2: what the call behind this one is given: the state that this one handed back, or the same as this one where its buffer can't
  -- hold a state and so wasn't written.
  unfoldable pub state_after : (state : List ℕ) → Call → List ℕ
  state_after state c = cond (eqb (length c.next) state_length) (call_leaves sheet state c).next state

  -- SPEC 11.6: the state behind the first j pairs of a call: what a run of just these would hand back, given room for j rows and a state.
  unfoldable pub state_in : (state : List ℕ) → Call → (j : ℕ) → List ℕ
  state_in state c j =
      (call_leaves sheet state (call run (take (pair_length * j) c.pairs) (replicate (row_length * j) 0) (replicate state_length 0))).next

  -- SPEC 11.4, 11.6: what the first j pairs of a call add to a situation: the pairs, and the rows among the bytes that it wrote.
  abbrev pub added : Situation → Call → (j : ℕ) → (state : List ℕ) → Situation
  added s c j state =
      record {
        state = state;
        history = s.history ++ map pair_of (pieces pair_length j c.pairs);
        rows = s.rows ++ map row_of (pieces row_length j (call_leaves sheet s.state c).rows);
      }

  -- SPEC 11.5: a stop, which is the papers' term: the situation behind j accepted pairs of a call, j being 0 before the first,
  abbrev pub stop_in : Situation → Call → (j : ℕ) → Situation
  stop_in s c j = added s c j (state_in s.state c j)

  -- and the one behind the whole call.
  abbrev pub after_call : Situation → Call → Situation
  after_call s c = added s c (accepted_in s.state c) (state_after s.state c)

  -- SPEC 16.2: the answer and the two buffers of a trial that is given this state,
  abbrev pub tried_in : (state : List ℕ) → Trial → Left
  tried_in state t = (trial_leaves sheet state t).left

  -- and SPEC 11.14: what a keeping leaves that is offered this state. Its trial is one that was made on the list's own sheet.
  abbrev pub kept_in : (state : List ℕ) → Keeping → Kept
  kept_in state k = keep_leaves (trial_leaves sheet k.start k.trial).bytes state k.next

  -- SPEC 11.4: a situation with one pair more: that of a trial from some start, with the row that the trial wrote, and this state.
  abbrev pub with_trial : Situation → (start : List ℕ) → Trial → (state : List ℕ) → Situation
  with_trial s start t state =
      record { state = state; history = s.history ++ (pair_of t.pair ∷ []); rows = s.rows ++ (row_in (tried_in start t) ∷ []) }

  -- SPEC 11.15: what an accepted trial answers, as a situation. The list doesn't come to it by the trial alone.
  abbrev pub trial_stop : Situation → Trial → Situation
  trial_stop s t = with_trial s s.state t (tried_in s.state t).next

  -- SPEC 11.16: a keeping with number 0 adds its trial's pair and row, and hands its state on; any other leaves all as it was.
  abbrev pub after_keeping : Situation → Keeping → Situation
  after_keeping s k = cond (eqb (kept_in s.state k).number 0) (with_trial s k.start k.trial (kept_in s.state k).next) s

  -- SPEC 11.13: the situation behind one operation; a trial leads nowhere.
  abbrev pub after : Situation → Operation → Situation
  after s (carries c) = after_call s c
  after s (tries t) = s
  after s (keeps k) = after_keeping s k

  -- SPEC 11.13: the situation behind some of them.
  unfoldable pub after_all : Situation → List Operation → Situation
  after_all s [] = s
  after_all s (o ∷ list) = after_all (after s o) list

  -- ---- The claim. `sound` says that the sheet passes.

  -- SPEC 11.16: behind some operations that made the history longer, no trial that had started from the state before them is kept.
  abbrev pub MovedOn : Situation → List Operation → Type 0
  MovedOn s more =
      length s.history < length (after_all s more).history → (k : Keeping) → k.start ≡ s.state
      → (kept_in (after_all s more).state k).number ≡ 0 → ⊥

  module _ (sound : SheetSound (sheet_of sheet)) where
    -- SPEC 11.8, 11.9: what holds at a stop: all lies within k grains of the bar that is fed the history, the counts are true, and the
    -- state passes 1 to 6 and 13 with the sheet.
    pub record Holds (s : Situation) : Type 0 where
      pub within : AtStop (sheet_of sheet) sound s.history s.rows (state_of s.state)
      pub standing : NoneApplies (standing_refusals sheet s.state)

    -- SPEC 11.8 to 11.11, of a call: it meets none of 1 to 6 and 13, all holds at each of its stops, and the states at its first and last
    -- stop are the ones that it was given and hands on.
    pub record AtCall (s : Situation) (c : Call) : Type 0 where
      pub standing : NoneApplies (standing_refusals sheet s.state)
      pub stops : (j : ℕ) → j ≤ accepted_in s.state c → Holds (stop_in s c j)
      pub starts : state_in s.state c 0 ≡ s.state
      pub ends : state_in s.state c (accepted_in s.state c) ≡ state_after s.state c
      -- SPEC 11.11: the row of a pair says whether the trial stress, from the state stored before it, passes a limit, and which
      pub marked : (j : ℕ) → j < accepted_in s.state c
          → Marked (sheet_of sheet) sound (state_of (state_in s.state c j)) (pair_of (piece_at pair_length j c.pairs))
          (row_of (piece_at row_length j (call_leaves sheet s.state c).rows))

    -- SPEC 11.15, of a trial: nothing has moved by it. Where it is accepted, its row and its next state lie within k and its own yielded
    -- bit of the bar that is fed its pair too, and the row is marked as any other.
    pub record AtTrial (s : Situation) (t : Trial) : Type 0 where
      pub stop : Holds (after s (tries t))
      pub tried : (tried_in s.state t).reply.number ≡ 0 → Holds (trial_stop s t)
      pub counted : yielded_rows (trial_stop s t).rows ≡ yielded_rows s.rows + flag (row_in (tried_in s.state t)).yielded
      pub marked : (tried_in s.state t).reply.number ≡ 0
          → Marked (sheet_of sheet) sound (state_of s.state) (pair_of t.pair) (row_in (tried_in s.state t))

    -- SPEC 11.16, of a keeping: all holds before it and behind it. Where it has number 0, its trial was given the list's state and was
    -- accepted, and the list is where the single pair of that trial leads; else its buffer is as it was.
    pub record AtKeeping (s : Situation) (k : Keeping) : Type 0 where
      pub before : Holds s
      pub behind : Holds (after s (keeps k))
      pub from : (kept_in s.state k).number ≡ 0 → k.start ≡ s.state
      pub accepted : (kept_in s.state k).number ≡ 0 → (tried_in k.start k.trial).reply.number ≡ 0
      pub same_as_single : (kept_in s.state k).number ≡ 0 → after s (keeps k) ≡ after_call s (as_single k.trial)
      pub kept_back : ((kept_in s.state k).number ≡ 0 → ⊥) → (kept_in s.state k).next ≡ k.next
      pub marked : (kept_in s.state k).number ≡ 0
          → Marked (sheet_of sheet) sound (state_of s.state) (pair_of k.trial.pair) (row_in (tried_in k.start k.trial))

    -- SPEC 11.8, 11.15, 11.16, of one operation,
    abbrev pub AtOperation : Situation → Operation → Type 0
    AtOperation s (carries c) = AtCall s c
    AtOperation s (tries t) = AtTrial s t
    AtOperation s (keeps k) = AtKeeping s k

    -- SPEC 11.8, 11.13: and demand 3 for a list from a situation: at every stop of each, and at the end.
    abbrev pub AtEveryStop : Situation → List Operation → Type 0
    AtEveryStop s [] = Holds s
    AtEveryStop s (o ∷ list) = AtOperation s o × AtEveryStop (after s o) list
