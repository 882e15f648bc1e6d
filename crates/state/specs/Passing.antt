-- A state that passes with a sheet (SPEC 7.14), cited by the proofs of carry, accuracy and the demands; definitions only, nothing is
-- assumed. proofs/Passing shows it of every unused rod and of every state after an accepted pair.
use Rattle.std.specs.Prelude.{◌≡◌}
use Rattle.refusals.specs.Table.{first_of, passes}
use Rattle.sheet.specs.declared.Sheet.{Sheet}
use Rattle.rod.specs.declared.Rod.{Rod}
use Rattle.state.specs.States.{state_of, state_refusals, state_bytes, StateFits}
use Rattle.rod.specs.Against.{against_refusals}
use Rattle.rod.specs.Accepted.{Accepted}

-- SPEC 7.14: what a step asks holds;
pub record StatePasses (h : Sheet) (r : Rod) : Type 0 where
  pub accepted : Accepted h r
  -- each number fits its field (SPEC 3.17);
  pub fits : StateFits r
  -- its bytes get neither 4 nor 5 and read back to it;
  pub reads_back : first_of (state_refusals (state_bytes r)) (state_of (state_bytes r)) ≡ passes r
  -- and it doesn't get 6.
  pub against : first_of (against_refusals h r) r ≡ passes r
