-- A pair that is tried on bytes, and the keeping of its trial (SPEC 16): what each answers and what every buffer holds after it, cited by
-- the contracts of this crate and by the demands; definitions only, for any bytes and any buffers, nothing is assumed.
use Rattle.std.specs.Prelude.{ℕ, ◌+◌, ◌*◌, Bool, true, false, not, ◌&&◌, cond, List, [], ◌∷◌, ◌++◌, length, take, drop, get_or, replicate, eqb}
use Rattle.refusals.specs.Table.{Refusal, refusal, Answer, passes, refused, first_of}
use Rattle.state.specs.States.{state_length}
use Rattle.tie_rod.specs.Calls.{Call, call, single, Left, call_leaves}

-- ---- A trial

-- SPEC 16.2: what a trial is given beside sheet and state: the bytes of its pair, and what the two lent buffers hold before it. Any bytes,
-- any lengths.
pub record Trial : Type 0 where
  pub pair : List ℕ
  pub row : List ℕ
  pub next : List ℕ

abbrev pub trial_with : (pair row next : List ℕ) → Trial
trial_with pair row next = record { pair = pair; row = row; next = next }

-- SPEC 16.2: the single pair on the same bytes and buffers.
abbrev pub as_single : Trial → Call
as_single t = call single t.pair t.row t.next

-- SPEC 16.3: the bytes that a trial leaves for a keeping,
abbrev pub trial_length : ℕ
trial_length = 1 + 2 * state_length

-- which are its number, its start and its next state; a refused one has zero bytes behind its number.
abbrev pub accepted_bytes : (start next : List ℕ) → List ℕ
accepted_bytes start next = 0 ∷ (start ++ next)

abbrev pub refused_bytes : (number : ℕ) → List ℕ
refused_bytes number = number ∷ replicate (2 * state_length) 0

abbrev pub trial_bytes : (number : ℕ) → (start next : List ℕ) → List ℕ
trial_bytes number start next = cond (eqb number 0) (accepted_bytes start next) (refused_bytes number)

-- SPEC 16.2: what a trial leaves: all that the single pair does, and those bytes.
pub record TrialLeft : Type 0 where
  pub left : Left
  pub bytes : List ℕ

abbrev pub trial_left : Left → (bytes : List ℕ) → TrialLeft
trial_left left bytes = record { left = left; bytes = bytes }

unfoldable pub trial_leaves : (sheet state : List ℕ) → Trial → TrialLeft
trial_leaves sheet state t =
    let l = call_leaves sheet state (as_single t) in
    trial_left l (trial_bytes l.reply.number state l.next)

-- ---- A keeping

-- SPEC 16.3, 16.8: number, start and next state in bytes that are offered as a trial, whoever wrote them.
abbrev pub number_in : List ℕ → ℕ
number_in trial = get_or trial 0 0

abbrev pub start_in : List ℕ → List ℕ
start_in trial = take state_length (drop 1 trial)

abbrev pub next_in : List ℕ → List ℕ
next_in trial = take state_length (drop (1 + state_length) trial)

-- SPEC 16.4: two lists of bytes are the same, byte for byte.
unfoldable pub same_bytes : (a b : List ℕ) → Bool
same_bytes [] [] = true
same_bytes [] (y ∷ b) = false
same_bytes (x ∷ a) [] = false
same_bytes (x ∷ a) (y ∷ b) = eqb x y && same_bytes a b

-- SPEC 16.4: 12 turns away a lent buffer that isn't as long as a state; 15 a trial that was refused, or a state that isn't its start.
unfoldable pub keep_refusals : (trial state : List ℕ) → (next : ℕ) → List Refusal
keep_refusals trial state next =
    refusal 12 (not (eqb next state_length)) ∷ refusal 15 (not (eqb (number_in trial) 0 && same_bytes state (start_in trial))) ∷ []

-- SPEC 16.5: what a keeping leaves: its number, and the lent buffer.
pub record Kept : Type 0 where
  pub number : ℕ
  pub next : List ℕ

abbrev pub kept : (number : ℕ) → (next : List ℕ) → Kept
kept number next = record { number = number; next = next }

-- SPEC 16.5: the next state is stored, or the buffer stays as it is.
abbrev pub kept_by : Answer (List ℕ) → (next : List ℕ) → Kept
kept_by (passes new) next = kept 0 new
kept_by (refused number) next = kept number next

unfoldable pub keep_leaves : (trial state next : List ℕ) → Kept
keep_leaves trial state next = kept_by (first_of (keep_refusals trial state (length next)) (next_in trial)) next
