use Rattle.std.proofs.Common.{arith, sym, []}
use Rattle.sheet.specs.Sheets.{placed}
use Rattle.sheet.proofs.SheetLaws.{by_some}
use Rattle.sheet.proofs.unread.Goals as goal

pub returns-else-count-eq0 : goal.returns-else-count-eq0
unfolding placed
returns-else-count-eq0 c = sym (by_some c.args.count c.args.single.0 [] (omega (arith, c.if-count-eq0.false)))
