use Rattle.std.proofs.Common.{rules, arith, ◌≡◌, length, length-drop, sym}
use Rattle.std.proofs.Math.ListN.{length-take}
use Rattle.trial.specs.Trials.{trial_length}
use Rattle.trial.proofs.TrialLaws.{kept_room}
use Rattle.trial.proofs.keep.Goals as goal

-- The buffer is as long as the next state.
pub copy_from_slice-requires : goal.copy_from_slice-requires
copy_from_slice-requires c =
    let a = c.args in
    let long : length a.trial.now ≡ trial_length = search rules in
    let room = kept_room a.trial.now a.state.now (length a.next.now) (sym c.in_ok-check.ensures) in
    simp (length-take, length-drop) (omega (arith, long, room))
