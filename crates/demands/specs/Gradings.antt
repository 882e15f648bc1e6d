-- What is claimed of gradings (SPEC 17.7, 17.8): their verdicts over the bytes that a run of the same pairs leaves, and over the bar
-- without rounding; cited by proofs/Demands. Definitions only, over what a run leaves and never over the program; nothing is assumed.
use Rattle.std.specs.Prelude.{ℕ, ◌+◌, ◌*◌, ◌<◌, ◌≡◌, List, [], ◌∷◌, ◌⊎◌, ◌↔◌, length, replicate, pos, nat_abs, ◌+ℤ◌, ◌-ℤ◌, ◌≤ℤ◌}
use Rattle.refusals.specs.Table.{NoneApplies, Given, numbers_of}
use Rattle.fractions.specs.Fraction.{Frac, ◌≤F◌, ◌<F◌, whole, ◌-F◌, abs_f}
use Rattle.row.specs.Rows.{row_length}
use Rattle.sheet.specs.Sheets.{sheet_of}
use Rattle.sheet.specs.Sound.{SheetSound}
use Rattle.state.specs.States.{state_of, state_length}
use Rattle.carry.specs.Walk.{yielded_rows}
use Rattle.accuracy.specs.Bar.{bar_after}
use Rattle.tie_rod.specs.Calls.{Call, call, run, count_in, buffer_refusals, Left, call_leaves}
use Rattle.grade.specs.Grades.{Grading, stress_at, Verdict, verdict, grading_refusals, grade_of}
use Rattle.demands.specs.Lists.{Situation, stop_in, AtCall}

-- SPEC 17.7: the run of the pairs that are graded, with room for its rows and its state.
abbrev pub own_run : Grading → Call
own_run g = call run g.pairs (replicate (row_length * count_in g.pairs) 0) (replicate state_length 0)

-- ---- Demand 1 for a grading

module _ (sheet state : List ℕ) (g : Grading) where
  -- SPEC 17.7: what that run leaves.
  abbrev pub ran : Left
  ran = call_leaves sheet state (own_run g)

  -- SPEC 17.7: in row j, counted from 0, their stress lies within the tolerance of the one that the run wrote.
  abbrev pub Agrees : (j : ℕ) → Type 0
  Agrees j = pos (nat_abs (stress_at g.rows j -ℤ stress_at ran.rows j)) ≤ℤ g.tolerance

  -- SPEC 17.7: why a verdict is as it is. The run is refused: its own number and place.
  pub record ByRun (v : Verdict) : Type 0 where
    pub refused : ran.reply.number ≡ 0 → ⊥
    pub is : v ≡ verdict ran.reply.number ran.reply.place 0

  -- It isn't, and 16 or 17 applies: place 0.
  pub record ByTable (v : Verdict) : Type 0 where
    pub accepted : ran.reply.number ≡ 0
    pub number : ℕ
    pub given : Given (grading_refusals g) number
    pub is : v ≡ verdict number 0 0

  -- Neither does, and row j is the first that isn't within the tolerance; the verdict counts it from 1.
  pub record ByRow (v : Verdict) : Type 0 where
    pub accepted : ran.reply.number ≡ 0
    pub own : NoneApplies (grading_refusals g)
    pub j : ℕ
    pub there : j < count_in g.pairs
    pub before : (i : ℕ) → i < j → Agrees i
    pub outside : Agrees j → ⊥
    pub is : v ≡ verdict 0 0 (j + 1)

  -- Every row is within it.
  pub record ByAll (v : Verdict) : Type 0 where
    pub accepted : ran.reply.number ≡ 0
    pub own : NoneApplies (grading_refusals g)
    pub each : (j : ℕ) → j < count_in g.pairs → Agrees j
    pub is : v ≡ verdict 0 0 0

  -- One of these four, and there is no other way.
  abbrev pub GradeReason : (v : Verdict) → Type 0
  GradeReason v = ByRun v ⊎ (ByTable v ⊎ (ByRow v ⊎ ByAll v))

  -- SPEC 17.7: a verdict is given exactly where there is a reason for it.
  pub record GradingAnswered : Type 0 where
    pub own_order : numbers_of (grading_refusals g) ≡ 16 ∷ 17 ∷ []
    -- the run has room, so that its line 12 doesn't apply
    pub no_12 : NoneApplies (buffer_refusals (count_in g.pairs) (length (own_run g).rows) (length (own_run g).next))
    pub exactly : (v : Verdict) → (grade_of sheet state g ≡ v) ↔ GradeReason v

-- ---- Demand 3 for a grading

-- What is graded from the state that a list has come to; for the unused rod itself the list is empty.
module _ (sheet : List ℕ) (s : Situation) (g : Grading) where
  -- SPEC 17.8: the situation behind row j, counted from 0,
  abbrev pub behind : (j : ℕ) → Situation
  behind j = stop_in sheet s (own_run g) (j + 1)

  -- and our rows up to that row and with it that say that the rod yielded: the k of the row,
  abbrev pub yielded_up_to : (j : ℕ) → ℕ
  yielded_up_to j = yielded_rows (behind j).rows

  -- which our state behind it shows, so that no greater number can stand for it.
  abbrev pub Counted : (j : ℕ) → Type 0
  Counted j = (state_of (behind j).state).yielded_pairs ≡ yielded_up_to j

  -- `sound` says that the sheet passes.
  module _ (sound : SheetSound (sheet_of sheet)) where
    -- SPEC 17.8: how far their stress in row j lies from the exact one, that of the bar without rounding which is fed the same pairs.
    abbrev pub away_at : (j : ℕ) → Frac
    away_at j = abs_f (whole (stress_at g.rows j) -F (bar_after (sheet_of sheet) sound (behind j).history).stress)

    -- SPEC 17.8: at most d + k away,
    pub record CloseAt (j : ℕ) : Type 0 where
      pub counted : Counted j
      pub close : away_at j ≤F whole (g.tolerance +ℤ pos (yielded_up_to j))

    -- and more than d - k, which may be below 0.
    pub record FarAt (j : ℕ) : Type 0 where
      pub counted : Counted j
      pub far : whole (g.tolerance -ℤ pos (yielded_up_to j)) <F away_at j

    -- SPEC 17.8: every row of an accepted table is close, and so is each before the one that is named; that one is far.
    pub record AtGrading : Type 0 where
      -- all of demand 3 holds of the run whose rows theirs are compared with
      pub run : AtCall sheet sound s (own_run g)
      pub accepted : grade_of sheet s.state g ≡ verdict 0 0 0 → (j : ℕ) → j < count_in g.pairs → CloseAt j
      pub before : (j : ℕ) → grade_of sheet s.state g ≡ verdict 0 0 (j + 1) → (i : ℕ) → i < j → CloseAt i
      pub named : (j : ℕ) → grade_of sheet s.state g ≡ verdict 0 0 (j + 1) → FarAt j
