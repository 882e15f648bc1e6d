-- What the kit puts into the array is the numeral.
use Rattle.std.proofs.Common.{◌∙◌, ℕ, List, subst}
use Rattle.rod_log.specs.Texts.{Appended}
use Rattle.rod_log.proofs.NumeralLaws.{fewest_is}
use Rattle.rod_log.proofs.text.Text.decimal.Goals as goal

pub append-requires : goal.append-requires
append-requires c =
    let spelled = c.decimal-count.ensures.digits ∙ fewest_is c.decimal-count.result c.args.n c.decimal-count.ensures.len in
    rw spelled c.requires

pub returns-clause-appended : goal.returns-clause-appended
returns-clause-appended c =
    let text = c.args.self.now in
    let spelled = c.decimal-count.ensures.digits ∙ fewest_is c.decimal-count.result c.args.n c.decimal-count.ensures.len in
    subst (λ (piece : List ℕ). Appended piece text.out.now text.at c.append.new.self.out.now c.append.new.self.at) spelled c.append.ensures.appended
