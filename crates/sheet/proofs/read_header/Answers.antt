use Rattle.std.proofs.Common.{ap, ◌∙◌}
use mathlib.Core.Bool.{and-false}
use Rattle.sheet.specs.declared.Counts.{Counts}
use Rattle.sheet.specs.Sheets.{law_in, point_count, sheet_counts_right, constants_right, yields_right, header_right}
use Rattle.sheet.specs.ReaderAnswers.{counts_of, constants_of, yields_of, constants_in, yields_in}
use Rattle.sheet.proofs.SheetLaws.{read_tells, refusal_handed_on}
use Rattle.sheet.proofs.read_header.Goals as goal

-- The yields were read under the sheet's law, and E, expansion and reference temperature under its count of points.
pub returns-in_err-yields : goal.returns-in_err-yields
unfolding header_right
returns-in_err-yields c =
    let s = c.args.s.now in
    let counts = read_tells (sheet_counts_right s) (counts_of s) c.in_ok-counts.ensures in
    let law = ap (λ (k : Counts). yields_in s k.law) counts.1 in
    let yields = refusal_handed_on (yields_right s (law_in s)) (yields_of s) c.from_residual-in_err-yields.result (c.in_err-yields.ensures ∙ law) c.from_residual-in_err-yields.ensures.1 in
    simp (yields.0, and-false) yields.1

pub returns : goal.returns
unfolding header_right
returns c =
    let s = c.args.s.now in
    let counts = read_tells (sheet_counts_right s) (counts_of s) c.in_ok-counts.ensures in
    let points = ap (λ (k : Counts). constants_in s k.points) counts.1 in
    let law = ap (λ (k : Counts). yields_in s k.law) counts.1 in
    let constants = read_tells (constants_right s (point_count s)) (constants_of s) (c.in_ok-constants.ensures ∙ points) in
    let yields = read_tells (yields_right s (law_in s)) (yields_of s) (c.in_ok-yields.ensures ∙ law) in
    simp (counts.0, constants.0, yields.0, counts.1, constants.1, yields.1)
