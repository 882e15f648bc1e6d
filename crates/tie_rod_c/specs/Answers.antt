-- An answer as one number for C (SPEC 9.10), cited by the contracts of this crate; definitions only, nothing is assumed.
use Rattle.std.specs.Prelude.{ℕ, ◌+◌, ◌*◌, List}
use Rattle.refusals.specs.Table.{Answer, in_one_number}
use Rattle.tie_rod.specs.Calls.{Left, answer_number, tangent_told}
use Rattle.trial.specs.Trials.{TrialLeft}

-- SPEC 9.10: what a run or a single pair leaves, as C sees it: number and place, the result buffer and the buffer for the new state.
pub record Seen : Type 0 where
  pub answer : ℕ
  pub rows : List ℕ
  pub next : List ℕ

abbrev pub seen : (answer : ℕ) → (rows next : List ℕ) → Seen
seen answer rows next = record { answer = answer; rows = rows; next = next }

abbrev pub seen_of : Left → Seen
seen_of l = seen (in_one_number l.reply.number l.reply.place) l.rows l.next

-- SPEC 9.10, 16.6: what a trial leaves, as C sees it: the same, and the bytes for a keeping.
pub record TrialSeen : Type 0 where
  pub seen : Seen
  pub trial : List ℕ

abbrev pub trial_seen : Seen → (trial : List ℕ) → TrialSeen
trial_seen seen trial = record { seen = seen; trial = trial }

abbrev pub trial_seen_of : TrialLeft → TrialSeen
trial_seen_of l = trial_seen (seen_of l.left) l.bytes

-- SPEC 9.10: number + 256 · tangent, for a forecast.
abbrev pub forecast_in_one_number : Answer ℕ → ℕ
forecast_in_one_number a = answer_number a + 256 * tangent_told a
