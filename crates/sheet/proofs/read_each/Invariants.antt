-- The loop keeps the things passed in their places, and that they were right.
use Rattle.std.proofs.Common.{ℕ, Bool, ◌≡◌, true, length, take}
use Rattle.sheet.specs.Sheets.{all_below, listed}
use Rattle.sheet.specs.ReaderAnswers.{ReadsEach}
use Rattle.sheet.proofs.read_each.Given as goal

abbrev pub invariant-loop-i : goal.invariant-loop-i
invariant-loop-i g l =
    (right : ℕ → Bool) (thing : ℕ → _) → ReadsEach (goal.F-post g l.read) right thing (length l.initial.places)
    → (all_below right l.i ≡ true) × (take l.i l.places ≡ listed thing 0 l.i)
