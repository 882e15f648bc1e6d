-- What trying a pair on a rod answers (SPEC 7.15), cited by the contracts of this crate and section; definitions only, nothing is assumed.
use Rattle.std.specs.Prelude.{Result}
use Rattle.refusals.specs.Table.{Answer}
use Rattle.refusals.specs.declared.Reason.{Reason}
use Rattle.refusals.specs.Reasons.{answer_by}
use Rattle.rod.specs.declared.step.Advance.{Advance}
use Rattle.carry.specs.declared.standing.Carried.{Carried}

-- SPEC 7.15: the number, or the next state and the row. What goes along beside the rod stands with it, by its type.
abbrev pub trial_told : Result Carried Reason → Answer Advance
trial_told result = answer_by (λ (c : Carried). record { rod = c.to.reached.rod; row = c.row }) result
