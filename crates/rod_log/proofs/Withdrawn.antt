-- SPEC 8.7: no log comes to the number that was taken out, so that no text has it behind `refused`.
use Prim.Native.Nat.{ℕ}
use mathlib.Core.Path.{◌≡◌, refl}
use mathlib.Core.List.{List}
use lib.ListN.{length}
use Rattle.refusals.specs.Table.{withdrawn, Answer, passes, refused, first_of}
use Rattle.refusals.proofs.FirstLaws.{InUse, Numbered, number_stands}
use Rattle.judge.specs.Standing.{Ready, ready_of}
use Rattle.tie_rod.specs.Calls.{pairs_in}
use Rattle.tie_rod.proofs.Numbers.{opening_numbers, walk_in_use}
use Rattle.rod_log.specs.Logs.{sheet_part, state_part, pairs_part, log_refusals, told_by, told_of, log_told}

told_in_use : (sheet state pairs : List ℕ) → InUse (told_of sheet state pairs).number
unfolding told_of told_by log_refusals
told_in_use sheet state pairs = by_answer (first_of (log_refusals sheet state pairs) (ready_of sheet state)) refl
  where
    by_answer : (x : Answer Ready) → first_of (log_refusals sheet state pairs) (ready_of sheet state) ≡ x → InUse (told_by x pairs).number
    by_answer (passes x) e = walk_in_use x.sheet x.rod (pairs_in pairs)
    by_answer (refused n) e =
        (number_stands Numbered (log_refusals sheet state pairs) (ready_of sheet state) (opening_numbers sheet state (length pairs)) e).1

pub log_not_withdrawn : (log : List ℕ) → (log_told log).number ≡ withdrawn → ⊥
log_not_withdrawn log = (told_in_use (sheet_part log) (state_part log) (pairs_part log)).1
