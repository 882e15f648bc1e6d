-- SPEC 12.7: input that stops in the sheet or in the state.
use Prim.Native.Nat.{ℕ, ◌+◌, ◌<◌}
use mathlib.Core.Path.{◌≡◌, ap, ◌∙◌}
use mathlib.Core.Bool.{true, or-true}
use mathlib.Core.List.{List, [], ◌++◌, append_assoc}
use native.Mathlib.Omega.{arith}
use borrow.Author.Tests.{ne_eqb}
use lib.Dec.{eqb, ltb}
use lib.ListN.{length, drop, length-take, length-drop}
use lib.Seq.{take_all}
use Rattle.refusals.specs.Table.{Refusal, Answer, passes, refused, first_of}
use Rattle.refusals.proofs.FirstLaws.{goes_on}
use Rattle.sheet.specs.declared.Sheet.{Sheet}
use Rattle.sheet.specs.SheetLayout.{header_length}
use Rattle.sheet.specs.Sheets.{length_wrong, sheet_refusals, sheet_of}
use Rattle.pair.specs.Pairs.{list_refusals}
use Rattle.state.specs.States.{state_length, state_refusals, state_of}
use Rattle.rod.specs.Against.{against_refusals}
use Rattle.judge.specs.Standing.{Ready, ready_of, standing_refusals}
use Rattle.rod_log.specs.Logs.{Told, sheet_end, sheet_part, state_part, pairs_part, log_refusals, told_by, told_of, log_told}

-- A refusal before the first pair: no row, and place 0.
abbrev pub turned_away : ℕ → Told
turned_away number = record { number = number; place = 0; rows = [] }

short_state : (state : List ℕ) (others : List Refusal) (ready : Ready) → length state < state_length → first_of (state_refusals state ++ others) ready ≡ refused 4
unfolding first_of state_refusals
short_state state others ready short = rw (ne_eqb (length state) state_length (λ e. omega (arith, e)))

module _ (log : List ℕ) where
  -- Input that ends before the sheet does by its own counts gets 1.
  pub sheet_early : length log < sheet_end log → log_told log ≡ turned_away 1
  unfolding told_of told_by log_refusals standing_refusals sheet_refusals length_wrong first_of
  sheet_early early =
      let all : sheet_part log ≡ log = take_all (sheet_end log) log (omega arith) in
      let other : eqb (length log) (sheet_end log) ≡ _ = ne_eqb (length log) (sheet_end log) (λ e. omega (arith, e)) in
      let wrong : length_wrong (sheet_part log) ≡ true = ap length_wrong all ∙ rw other (or-true (ltb (length log) header_length)) in
      rw wrong

  -- Input that ends in the state, behind a sheet that passes, gets 4.
  pub state_early : {h : Sheet} → first_of (sheet_refusals (sheet_part log)) (sheet_of (sheet_part log)) ≡ passes h → length log < sheet_end log + state_length
      → log_told log ≡ turned_away 4
  unfolding told_of told_by log_refusals standing_refusals
  state_early passed early =
      let sheet = sheet_part log in
      let state = state_part log in
      let against = against_refusals (sheet_of sheet) (state_of state) in
      let list = list_refusals (length (pairs_part log)) in
      let ready = ready_of sheet state in
      let short : length state < state_length = omega (arith, length-take state_length (drop (sheet_end log) log), length-drop (sheet_end log) log) in
      let regrouped : (sheet_refusals sheet ++ (state_refusals state ++ against)) ++ list ≡ sheet_refusals sheet ++ (state_refusals state ++ (against ++ list)) = simp append_assoc in
      let answer : first_of ((sheet_refusals sheet ++ (state_refusals state ++ against)) ++ list) ready ≡ refused 4 =
      ap (λ (t : List Refusal). first_of t ready) regrouped
      ∙ goes_on (sheet_refusals sheet) (state_refusals state ++ (against ++ list)) (sheet_of sheet) ready passed ∙ short_state state (against ++ list) ready short in
      ap (λ (x : Answer Ready). told_by x (pairs_part log)) answer
