-- What demands 1 and 2 claim of calls on bytes (SPEC 6.6, 8.7, 9.11 to 9.13, 16.9): the single pair, the run, the trial and its keeping,
-- the forecast and the unused rod, on any bytes of any lengths; cited by proofs/Demands. Definitions only, over what a call leaves and never
-- over the program; nothing is assumed. What demand 1 claims of trials, keepings, gradings and sections is in Trials, Gradings and Sections;
-- demand 3, over lists, is AtEveryStop in Lists and WithinFrom in Sections.
use Rattle.std.specs.Prelude.{ℕ, ◌+◌, ◌*◌, ◌≤◌, ◌<◌, ◌≡◌, List, [], ◌∷◌, ◌++◌, ◌⊎◌, ◌↔◌, length, get_or, drop, pos, ◌-ℤ◌}
use Rattle.refusals.specs.Table.{Refusal, refusal, numbers_of, withdrawn, refused, NoneApplies, Given, Follows}
use Rattle.units.specs.Kinds.{grain}
use Rattle.fractions.specs.Fraction.{Frac, whole}
use Rattle.pair.specs.declared.Pair.{Pair}
use Rattle.pair.specs.Pairs.{pair_of, pair_length}
use Rattle.row.specs.declared.Row.{Row}
use Rattle.row.specs.Rows.{row_of, row_length}
use Rattle.sheet.specs.declared.Sheet.{Sheet}
use Rattle.sheet.specs.Sheets.{sheet_of, sheet_refusals}
use Rattle.sheet.specs.Sound.{SheetSound}
use Rattle.response.specs.Response.{Outcome}
use Rattle.response.specs.Candidates.{PassesTension, PassesCompression}
use Rattle.response.specs.Solved.{Solved, Shows}
use Rattle.rod.specs.declared.Rod.{Rod}
use Rattle.rod.specs.declared.step.Advance.{Advance}
use Rattle.state.specs.States.{state_of, state_bytes, state_length, zero_state}
use Rattle.rod.specs.Steps.{trial_of, plastic_at, rod_after, row_after, leaves_range}
use Rattle.rod.specs.Forecast.{forecast_of}
use Rattle.rod.specs.Unused.{unused_of}
use Rattle.carry.specs.Walk.{pair_table, last_rod, rows_of, rows_bytes, History}
use Rattle.judge.specs.Standing.{standing_refusals}
use Rattle.tie_rod.specs.Calls.{Call, pieces, piece_at, count_in, call_refusals, Left, part_of, call_leaves, tangent_told, forecast_answer, unused_answer, unused_left}
use Rattle.trial.specs.Trials.{Trial, trial_leaves, keep_leaves}
use Rattle.grade.specs.Grades.{Grading, grade_of}
use Rattle.section.specs.declared.Member.{Member}
use Rattle.section.specs.declared.Change.{Change}
use Rattle.section.specs.Sections.{section_leaves}
use Rattle.demands.specs.Lists.{state_after, accepted_in, state_in, row_in, tried_in}
use Rattle.demands.specs.Trials.{TrialAnswered, KeepingAnswered, AnythingOffered}
use Rattle.demands.specs.Gradings.{GradingAnswered}
use Rattle.demands.specs.Sections.{SectionAnswered}

-- ---- Demand 1: the conditions

-- SPEC 9.11: the ways in which a call comes to a number and a place, stage by stage.
module _ (sheet state : List ℕ) (c : Call) where
  -- The sheet or the state is refused: place 0.
  pub record ByStanding (number place : ℕ) : Type 0 where
    pub given : Given (standing_refusals sheet state) number
    pub nowhere : place ≡ 0

  -- They pass, and the call itself is refused: place 0.
  pub record ByCall (number place : ℕ) : Type 0 where
    pub standing : NoneApplies (standing_refusals sheet state)
    pub given : Given (call_refusals c) number
    pub nowhere : place ≡ 0

  -- All that is decided before the pairs passes, and its first m pairs are accepted one after another.
  pub record Accepts (m : ℕ) : Type 0 where
    pub standing : NoneApplies (standing_refusals sheet state)
    pub own : NoneApplies (call_refusals c)
    pub advances : List Advance
    pub history : History (sheet_of sheet) (state_of state) (pieces pair_length m c.pairs) advances

  -- The pair behind some accepted ones is given the number, from the state that they left; its place is counted from 1.
  pub record ByPair (number place : ℕ) : Type 0 where
    pub before : ℕ
    pub there : before < count_in c.pairs
    pub accepts : Accepts before
    pub given : Given (pair_table (sheet_of sheet) (last_rod (state_of state) accepts.advances) (piece_at pair_length before c.pairs)) number
    pub at : place ≡ before + 1

  -- Every pair is accepted: number 0 and place 0.
  pub record ByNone (number place : ℕ) : Type 0 where
    pub accepts : Accepts (count_in c.pairs)
    pub no_number : number ≡ 0
    pub nowhere : place ≡ 0

  -- One of these four, and there is no other way.
  abbrev pub Reason : (number place : ℕ) → Type 0
  Reason number place = ByStanding number place ⊎ (ByCall number place ⊎ (ByPair number place ⊎ ByNone number place))

-- ---- Demand 1: the results and the state

-- SPEC 9.3, after a call refused before its pairs, which hands this state back: no result byte changed, the part is empty.
pub record Untouched (back : List ℕ) (c : Call) (l : Left) : Type 0 where
  pub rows : l.rows ≡ c.rows
  pub part : part_of l ≡ []
  pub next : length c.next ≡ state_length → l.next ≡ back

-- SPEC 9.3, after a call whose first pairs left these states and rows, so many of them: their rows are the part and stand in front of the
-- other result bytes, which didn't change, and the state after the last of them is handed back.
pub record Written (r : Rod) (c : Call) (accepted : ℕ) (advances : List Advance) (l : Left) : Type 0 where
  pub rows : l.rows ≡ rows_bytes (rows_of advances) ++ drop (row_length * accepted) c.rows
  pub part : part_of l ≡ rows_bytes (rows_of advances)
  pub next : l.next ≡ state_bytes (last_rod r advances)

-- ---- Demand 1 for a call, a single pair or a run

-- SPEC 9.11: number and place are those of the tables, and what is left follows from the stage.
pub record CallAnswered (sheet state : List ℕ) (c : Call) : Type 0 where
  -- the lines stand in the order of SPEC 8.2
  pub order : numbers_of (standing_refusals sheet state ++ call_refusals c) ≡ 1 ∷ 2 ∷ 3 ∷ 13 ∷ 4 ∷ 5 ∷ 6 ∷ 7 ∷ 12 ∷ []
  pub pair_order : (r : Rod) (pair : List ℕ) → numbers_of (pair_table (sheet_of sheet) r pair) ≡ 8 ∷ 9 ∷ 10 ∷ []
  -- a number and a place are answered exactly where there is a reason for them
  pub exactly : (number place : ℕ)
      → (((call_leaves sheet state c).reply.number ≡ number) × ((call_leaves sheet state c).reply.place ≡ place)) ↔ Reason sheet state c number place
  -- the answer says how many pairs were accepted: as many as number and place say (SPEC 9.3, 11.3)
  pub told : (call_leaves sheet state c).reply.accepted ≡ accepted_in sheet state c
  -- what a call leaves, by the stage that refused it (SPEC 8.6)
  pub standing_leaves : (n : ℕ) → Given (standing_refusals sheet state) n → Untouched zero_state c (call_leaves sheet state c)
  pub by_call_leaves : (n : ℕ) → ByCall sheet state c n 0 → Untouched state c (call_leaves sheet state c)
  pub pairs_leave : (accepts : Accepts sheet state c (accepted_in sheet state c))
      → Written (state_of state) c (accepted_in sheet state c) accepts.advances (call_leaves sheet state c)
  -- where neither the sheet, the state nor the call is refused, as many pairs are accepted as number and place say
  pub accepts : NoneApplies (standing_refusals sheet state) → NoneApplies (call_refusals c) → Accepts sheet state c (accepted_in sheet state c)
  -- SPEC 9.5: where no pair was accepted, the state's own bytes are handed back (bytes are below 256)
  pub same : Accepts sheet state c 0 → accepted_in sheet state c ≡ 0 → ((i : ℕ) → get_or state i 0 < 256) → (call_leaves sheet state c).next ≡ state
  -- SPEC 9.4: a buffer for the new state that isn't as long as a state keeps its bytes, whatever the answer
  pub never : (length c.next ≡ state_length → ⊥) → (call_leaves sheet state c).next ≡ c.next

-- ---- Demand 1: the number that was taken out

-- SPEC 8.7: no entry answers it, whatever it is given: no call, no trial, no keeping, no grading, no section, no forecast, no unused rod.
pub record NotWithdrawn (sheet state : List ℕ) : Type 0 where
  pub calls : (c : Call) → (call_leaves sheet state c).reply.number ≡ withdrawn → ⊥
  pub trials : (t : Trial) → (trial_leaves sheet state t).left.reply.number ≡ withdrawn → ⊥
  pub keepings : (trial next : List ℕ) → (keep_leaves trial state next).number ≡ withdrawn → ⊥
  pub gradings : (g : Grading) → (grade_of sheet state g).number ≡ withdrawn → ⊥
  pub sections : (c : Change) (members : List Member) → (section_leaves sheet c members).reply.number ≡ withdrawn → ⊥
  pub forecast : forecast_answer sheet state ≡ refused withdrawn → ⊥
  pub unused : unused_answer sheet ≡ refused withdrawn → ⊥

-- ---- Demand 1 whole

-- SPEC 9.11: every call, trial, keeping, grading, section, forecast and unused rod, for any bytes as sheet and as state.
pub record Answered (sheet state : List ℕ) : Type 0 where
  pub calls : (c : Call) → CallAnswered sheet state c
  -- SPEC 16.7: a trial, and every keeping of it, whatever state and buffer it is offered
  pub trials : (t : Trial) → TrialAnswered sheet state t
  pub keepings : (t : Trial) (offered next : List ℕ) → KeepingAnswered sheet state t offered next
  -- SPEC 16.8: a keeping of any bytes at all
  pub anything : (trial next : List ℕ) → AnythingOffered trial state next
  -- SPEC 17.7: a grading, whatever is graded
  pub gradings : (g : Grading) → GradingAnswered sheet state g
  -- SPEC 15.8: a section, whatever its members' states
  pub sections : (c : Change) (members : List Member) → SectionAnswered sheet c members
  -- SPEC 9.8: a forecast follows the standing lines, and tells tangent 0 beside a number
  pub forecast_order : numbers_of (standing_refusals sheet state) ≡ 1 ∷ 2 ∷ 3 ∷ 13 ∷ 4 ∷ 5 ∷ 6 ∷ []
  pub forecast : Follows (standing_refusals sheet state) (forecast_of (sheet_of sheet) (state_of state)) (forecast_answer sheet state)
  pub no_tangent : (n : ℕ) → Given (standing_refusals sheet state) n → tangent_told (forecast_answer sheet state) ≡ 0
  -- SPEC 9.9: an unused rod follows the lines of the sheet, and leaves zero bytes beside a number
  pub unused_order : numbers_of (sheet_refusals sheet) ≡ 1 ∷ 2 ∷ 3 ∷ 13 ∷ []
  pub unused : Follows (sheet_refusals sheet) (state_bytes (unused_of (sheet_of sheet))) (unused_answer sheet)
  pub no_state : (n : ℕ) → Given (sheet_refusals sheet) n → unused_left (unused_answer sheet) ≡ zero_state
  -- SPEC 8.7: none of them answers the number that was taken out
  pub not_withdrawn : NotWithdrawn sheet state

-- ---- Demand 2

-- SPEC 9.12, 9.13: a pair that was accepted from the rod r left a next rod and a row.
pub record PairSolved (h : Sheet) (sound : SheetSound h) (r : Rod) (p : Pair) (next : Rod) (row : Row) : Type 0 where
  -- The numbers that it left
  pub outcome : Outcome
  -- are the roundings (SPEC 7.2 to 7.5) of the one solution that the law's conditions have from the rod's stored numbers, with the branch
  -- that plastic strain goes by in it (SPEC 7.7), and the tangent is that of SPEC 7.8.
  pub solved : Solved h sound h.law (trial_of h r p) r.first.0 r.second.0 outcome
  -- They stand in the new state, with strain, temperature and counts as the pair sets them (SPEC 7.9),
  pub next_is : next ≡ rod_after r p outcome
  -- and in the row, with E times plastic strain (SPEC 7.10).
  pub row_is : row ≡ row_after h r p outcome
  -- E times plastic strain, in the state as in the row, changes by what the law took from the trial stress (SPEC 5.5).
  pub plastic : plastic_at h next -ℤ plastic_at h r ≡ trial_of h r p -ℤ next.stress.0
  pub row_plastic : row.plastic ≡ grain (plastic_at h next)
  -- By the row's branch it stays, doesn't fall or doesn't rise (SPEC 7.7); a change of less than a grain may not show.
  pub shown : Shows row.branch (plastic_at h r) (plastic_at h next)

-- SPEC 9.13: any pair, accepted or not, of a rod that passes: 10 is decided over the stated rounding of the only solution.
pub record RangeDecided (h : Sheet) (sound : SheetSound h) (r : Rod) (pair : List ℕ) : Type 0 where
  pub outcome : Outcome
  pub solved : Solved h sound h.law (trial_of h r (pair_of pair)) r.first.0 r.second.0 outcome
  -- What stands in the pair's table before the line of 10.
  pub before : List Refusal
  pub line : pair_table h r pair ≡ before ++ (refusal 10 (leaves_range r outcome.stress outcome.first outcome.second) ∷ [])

-- SPEC 9.12: pair j of a call, counted from 0: from the state that a run of the pairs before it hands back to the one that a run ending
-- with it does, with the row that the call itself wrote. `sound` says that the sheet passes.
abbrev pub SolvedAt : (sheet : List ℕ) → SheetSound (sheet_of sheet) → (state : List ℕ) → Call → (j : ℕ) → Type 0
SolvedAt sheet sound state c j =
    PairSolved (sheet_of sheet) sound (state_of (state_in sheet state c j)) (pair_of (piece_at pair_length j c.pairs))
    (state_of (state_in sheet state c (j + 1))) (row_of (piece_at row_length j (call_leaves sheet state c).rows))

-- SPEC 9.12: each pair that a call accepted, by its number and place.
pub record EachSolved (sheet : List ℕ) (sound : SheetSound (sheet_of sheet)) (state : List ℕ) (c : Call) : Type 0 where
  pub each : (j : ℕ) → j < accepted_in sheet state c → SolvedAt sheet sound state c j
  -- The first of them is from the state that the call was given,
  pub starts : state_of (state_in sheet state c 0) ≡ state_of state
  -- every state on the way passes 1 to 6 and 13,
  pub passing : (j : ℕ) → j ≤ accepted_in sheet state c → NoneApplies (standing_refusals sheet (state_in sheet state c j))
  -- and the last one is handed back.
  pub ends : state_of (state_in sheet state c (accepted_in sheet state c)) ≡ state_of (state_after sheet state c)

-- SPEC 16.9: the pair of a trial that started from this state, with the trial's row, and a next state: the trial's, or a keeping's.
abbrev pub TrialSolved : (sheet : List ℕ) → SheetSound (sheet_of sheet) → (state : List ℕ) → Trial → (next : List ℕ) → Type 0
TrialSolved sheet sound state t next =
    PairSolved (sheet_of sheet) sound (state_of state) (pair_of t.pair) (state_of next) (row_in (tried_in sheet state t))

-- SPEC 9.12, 9.13: demand 2 whole, for a sheet and a state that pass 1 to 6 and 13.
pub record SolvedFrom (sheet state : List ℕ) (sound : SheetSound (sheet_of sheet)) : Type 0 where
  pub calls : (c : Call) → EachSolved sheet sound state c
  -- SPEC 16.9: an accepted trial, and what a keeping of it hands on
  pub trials : (t : Trial) → (tried_in sheet state t).reply.number ≡ 0 → TrialSolved sheet sound state t (tried_in sheet state t).next
  pub keepings : (t : Trial) (offered next : List ℕ) → let kept = keep_leaves (trial_leaves sheet state t).bytes offered next in
      kept.number ≡ 0 → TrialSolved sheet sound state t kept.next
  pub range : (pair : List ℕ) → RangeDecided (sheet_of sheet) sound (state_of state) pair
  -- SPEC 6.6: whatever the trial, whole or not, it doesn't pass both limits
  pub one_limit : (trial : Frac) → let h = sheet_of sheet in let r = state_of state in
      PassesTension h sound h.law trial (whole r.first.0) (whole r.second.0)
      → PassesCompression h sound h.law trial (whole r.first.0) (whole r.second.0) → ⊥
  -- An unused rod has no plastic strain (SPEC 5.6).
  pub unused : plastic_at (sheet_of sheet) (unused_of (sheet_of sheet)) ≡ pos 0
