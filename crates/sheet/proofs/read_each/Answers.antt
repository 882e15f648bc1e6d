use Rattle.std.proofs.Common.{arith, refl, sym, Ok, Err, ◌<◌, ◌∙◌, length}
use Rattle.std.proofs.lemmas.List.{take_more_set}
use Rattle.sheet.specs.Sheets.{all_below, listed}
use Rattle.sheet.proofs.SheetLaws.{read_tells, lent_refused, all_below_more, all_below_stops, listed_more}
use Rattle.sheet.proofs.read_each.Goals as goal

pub loop-i-init : goal.loop-i-init
unfolding all_below listed
loop-i-init g c right thing each = (refl, refl)

pub returns-in_err-place : goal.returns-in_err-place
returns-in_err-place g c right thing each =
    let i = c.loop-i.i in
    let wrong = lent_refused (right i) (thing i) _ c.from_residual.result (each i (Err c.in_err-place.field-0.0) c.loop-i-test.true c.in_err-place.ensures) c.from_residual.ensures.1 in
    rw (all_below_stops right i (length c.args.places.now) c.loop-i-test.true wrong.0) wrong.1

pub loop-i-preserved : goal.loop-i-preserved
loop-i-preserved g c right thing each =
    let i = c.loop-i.i in
    let here = read_tells (right i) (thing i) (each i (Ok c.in_ok-place.field-0) c.loop-i-test.true c.in_ok-place.ensures) in
    let before = c.loop-i.invariant right thing each in
    let room : i < length c.loop-i.places = omega (arith, c.loop-i.auto.places, c.loop-i-test.true) in
    (all_below_more right i before.0 here.0, take_more_set c.loop-i.places i c.in_ok-place.field-0 room ∙ rw (before.1, here.1) (sym (listed_more thing i)))
