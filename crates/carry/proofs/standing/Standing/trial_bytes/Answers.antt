use Rattle.std.proofs.Common.{sym}
use Rattle.std.proofs.lemmas.Result.{err_from_is_err_and}
use Rattle.carry.proofs.PairAnswers.{pair_read, pair_stops, pair_then_step}
use Rattle.carry.proofs.standing.Standing.trial_bytes.Goals as goal

pub returns-in_err-read-clause-told : goal.returns-in_err-read-clause-told
returns-in_err-read-clause-told c =
    let a = c.args in
    let exit = err_from_is_err_and c.from_residual.result c.from_residual.ensures.1 in
    rw (exit.1, exit.2) (pair_stops a.self.material.now.sheet a.self.reached.rod a.bytes.now (sym c.in_err-read.ensures))

pub trial-requires : goal.trial-requires
trial-requires c = (pair_read c.args.bytes.now (sym c.in_ok-read.ensures)).1

pub returns-clause-told : goal.returns-clause-told
returns-clause-told c =
    let a = c.args in
    pair_then_step a.self.material.now.sheet a.self.reached.rod a.bytes.now (sym c.in_ok-read.ensures) c.trial.ensures.told
