-- What a step asks of sheet, state and pair (SPEC 7.14), cited by carry and state; definitions only, nothing is assumed.
use Rattle.std.specs.Prelude.{◌≤◌, ◌≡◌, true}
use Rattle.ranges.specs.Ranges.{most_count}
use Rattle.pair.specs.declared.Pair.{Pair}
use Rattle.pair.specs.Pairs as pairs
use Rattle.sheet.specs.declared.Sheet.{Sheet}
use Rattle.sheet.specs.Sound.{SheetSound}
use Rattle.rod.specs.declared.Rod.{Rod}
use Rattle.rod.specs.InRange.{rod_in_range}
use Rattle.rod.specs.Against.{belongs}

-- SPEC 7.14: what the laws use of a sheet that passes (SPEC 3.10), and a state in its ranges that 6 lets through, with n below 2 ^ 32.
pub record Accepted (h : Sheet) (r : Rod) : Type 0 where
  pub sound : SheetSound h
  pub in_range : rod_in_range r ≡ true
  pub counted : r.pairs ≤ most_count
  pub belongs : belongs h r ≡ true

-- SPEC 7.14: a pair that passes 8.
abbrev pub PairAccepted : Pair → Type 0
PairAccepted p = pairs.pair_in_range p ≡ true
