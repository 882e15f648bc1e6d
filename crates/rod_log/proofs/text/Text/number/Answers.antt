use Rattle.rod_log.specs.Texts.{numeral}
use Rattle.rod_log.proofs.AppendLaws.{room_then, both}
use Rattle.rod_log.proofs.text.Text.number.Goals as goal

pub append-requires : goal.append-requires
append-requires c =
    let text = c.args.self.now in
    room_then (numeral c.args.n) c.args.after.now text.out.now text.at c.requires c.decimal.ensures.appended

pub returns-clause-appended : goal.returns-clause-appended
returns-clause-appended c =
    let text = c.args.self.now in
    both (numeral c.args.n) c.args.after.now text.out.now text.at c.requires c.decimal.ensures.appended c.append.ensures.appended
