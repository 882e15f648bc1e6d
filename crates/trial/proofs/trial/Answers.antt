use Rattle.std.proofs.Common.{◌≡◌, length, ap, sym, ◌∙◌}
use Rattle.refusals.specs.Reasons.{number_in}
use Rattle.tie_rod.specs.Calls.{Left}
use Rattle.tie_rod.proofs.Numbers.{accepted_whole}
use Rattle.trial.specs.Trials.{trial_with, as_single}
use Rattle.trial.proofs.TrialLaws.{tried_as, refused_told}
use Rattle.trial.proofs.trial.Goals as goal

pub returns-in-Some : goal.returns-in-Some
returns-in-Some c =
    let a = c.args in
    tried_as a.sheet.now a.state.now (trial_with a.pair.now a.row.now a.next.now) c.pair_bytes-reply.ensures (c.write_refused.ensures ∙ refused_told a.state.now c.pair_bytes-reply.new.next c.in-Some.is)

-- An accepted trial's states have their length.
pub write_accepted-requires : goal.write_accepted-requires
write_accepted-requires c =
    let a = c.args in
    let none : number_in c.pair_bytes-reply.result.refused ≡ 0 = ap number_in c.in_default.is in
    let whole = accepted_whole a.sheet.now a.state.now (as_single (trial_with a.pair.now a.row.now a.next.now)) (ap (λ (l : Left). l.reply.number) (sym c.pair_bytes-reply.ensures) ∙ none) in
    (whole.given, ap (λ (l : Left). length l.next) c.pair_bytes-reply.ensures ∙ whole.back)

pub returns : goal.returns
returns c =
    let a = c.args in
    let none : number_in c.pair_bytes-reply.result.refused ≡ 0 = ap number_in c.in_default.is in
    tried_as a.sheet.now a.state.now (trial_with a.pair.now a.row.now a.next.now) c.pair_bytes-reply.ensures (c.write_accepted.ensures ∙ rw none)
