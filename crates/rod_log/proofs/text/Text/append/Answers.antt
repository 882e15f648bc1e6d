use Rattle.rod_log.proofs.AppendLaws.{copied}
use Rattle.rod_log.proofs.text.Text.append.Goals as goal

pub returns-clause-appended : goal.returns-clause-appended
returns-clause-appended c =
    let text = c.args.self.now in
    copied text.out.now c.args.piece.now c.copy_from_slice.new.self text.at c.requires c.copy_from_slice.ensures.after
