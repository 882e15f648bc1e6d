-- SPEC 8.7: no entry answers the number that was taken out. The numbers of each table are in use, and so is 0.
use Prim.Native.Nat.{ℕ}
use mathlib.Core.Path.{◌≡◌, refl}
use mathlib.Core.List.{List}
use lib.ListN.{length}
use Rattle.refusals.specs.Table.{Answer, passes, refused, first_of}
use Rattle.refusals.proofs.FirstLaws.{InUse, zero_in_use, Numbered, number_stands, number_given}
use Rattle.sheet.specs.Sheets.{sheet_of, sheet_refusals, sheet_field_refusals}
use Rattle.state.specs.States.{state_of, state_bytes}
use Rattle.rod.specs.Forecast.{forecast_of}
use Rattle.rod.specs.Unused.{unused_of}
use Rattle.judge.specs.Standing.{standing_refusals}
use Rattle.tie_rod.specs.Calls.{forecast_answer, unused_answer}
use Rattle.tie_rod.proofs.Numbers.{standing_numbers, call_small}
use Rattle.trial.specs.Trials.{as_single, trial_leaves, next_in, keep_refusals, kept_by, keep_leaves}
use Rattle.grade.proofs.Numbers.{grade_small}
use Rattle.section.proofs.SectionBounds.{section_bounds}
use Rattle.demands.specs.Demands.{NotWithdrawn}

keep_in_use : (trial state next : List ℕ) → InUse (keep_leaves trial state next).number
unfolding keep_leaves keep_refusals
keep_in_use trial state next = by_answer (first_of (keep_refusals trial state (length next)) (next_in trial)) refl
  where
    by_answer : (x : Answer (List ℕ)) → first_of (keep_refusals trial state (length next)) (next_in trial) ≡ x → InUse (kept_by x next).number
    by_answer (passes new) e = zero_in_use
    by_answer (refused n) e = (number_given (keep_refusals trial state (length next)) (next_in trial) refl e).1

pub not_withdrawn : (sheet state : List ℕ) → NotWithdrawn sheet state
unfolding trial_leaves forecast_answer unused_answer sheet_refusals sheet_field_refusals
not_withdrawn sheet state =
    record {
      calls = λ c. (call_small sheet state c).number.1;
      trials = λ t. (call_small sheet state (as_single t)).number.1;
      keepings = λ trial next. (keep_in_use trial state next).1;
      gradings = λ g. (grade_small sheet state g).number.1;
      sections = λ c members. (section_bounds sheet c members).0.1;
      forecast = λ e.
          (number_stands Numbered (standing_refusals sheet state) (forecast_of (sheet_of sheet) (state_of state)) (standing_numbers sheet state) e).1.1 refl;
      unused = λ e. (number_given (sheet_refusals sheet) (state_bytes (unused_of (sheet_of sheet))) refl e).1.1 refl;
    }
