-- A sheet and a state judged together: refusals 1 to 6 and 13, the first stage of a call (SPEC 8.6, 8.9), cited by calls, gradings, logs
-- and the demands; definitions only, for any bytes, nothing is assumed.
use Rattle.std.specs.Prelude.{ℕ, List, ◌++◌, Result}
use Rattle.refusals.specs.Table.{Refusal, Answer}
use Rattle.refusals.specs.declared.Reason.{Reason}
use Rattle.refusals.specs.Reasons.{answer_by}
use Rattle.sheet.specs.declared.Sheet.{Sheet}
use Rattle.sheet.specs.Sheets.{sheet_refusals, sheet_of}
use Rattle.rod.specs.declared.Rod.{Rod}
use Rattle.state.specs.States.{state_refusals, state_of}
use Rattle.rod.specs.Against.{against_refusals}
use Rattle.carry.specs.declared.standing.Standing.{Standing}
use Rattle.judge.specs.declared.judged.Judged.{Judged}

-- SPEC 8.9: a sheet and a rod that passed.
pub record Ready : Type 0 where
  pub sheet : Sheet
  pub rod : Rod

-- SPEC 3.9, 3.11: what the bytes of a sheet and of a state hold.
abbrev pub ready_of : (sheet state : List ℕ) → Ready
ready_of sheet state = record { sheet = sheet_of sheet; rod = state_of state }

-- SPEC 8.6: the lines of a state against a sheet that passes: 4 and 5, and 6.
abbrev pub holder_refusals : Sheet → (state : List ℕ) → List Refusal
holder_refusals h state = state_refusals state ++ against_refusals h (state_of state)

-- SPEC 8.6: the standing lines: 1 to 3 and 13 of the sheet, 4 and 5 of the state, 6 of the two together.
unfoldable pub standing_refusals : (sheet state : List ℕ) → List Refusal
standing_refusals sheet state = sheet_refusals sheet ++ holder_refusals (sheet_of sheet) state

-- SPEC 8.8: what judging answers: the number, or the sheet and the rod that passed,
abbrev pub standing_meaning : Result Standing Reason → Answer Ready
standing_meaning result = answer_by (λ (s : Standing). record { sheet = s.material.now.sheet; rod = s.reached.rod }) result

-- and what it answers by value.
abbrev pub judged_meaning : Result Judged Reason → Answer Ready
judged_meaning result = answer_by (λ (j : Judged). record { sheet = j.material.sheet; rod = j.reached.rod }) result
