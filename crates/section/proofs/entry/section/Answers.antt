use Rattle.std.proofs.Common.{◌≡◌, rules, length, refl, subst, ◌∙◌, Result, Ok, Err, w64}
use mir.Facts.{to_z-of_z}
use Rattle.std.proofs.lemmas.Result.{err_from_is_err_and}
use Rattle.refusals.specs.declared.Reason.{Reason}
use Rattle.units.proofs.Words.{stored}
use Rattle.section.specs.declared.Change.{Change}
use Rattle.section.specs.declared.Movement.{Movement}
use Rattle.section.specs.Sections.{change_of, section_left}
use Rattle.section.specs.Tallies.{Opened}
use Rattle.section.proofs.SectionLaws.{section_stops, section_is}
use Rattle.section.proofs.entry.section.Goals as goal
use Rattle.section.proofs.entry.section.Goals.{Start}

-- The change is the one that the numbers make
change_is : (c : Start) → change_of (stored c.args.mean) (stored c.args.curvature) (stored c.args.temperature) ≡ change_of c.args.mean c.args.curvature c.args.temperature
change_is c =
    let mean = to_z-of_z c.ranges.mean in
    let k = to_z-of_z c.ranges.curvature in
    let temperature = to_z-of_z c.ranges.temperature in
    λ i. change_of (mean i) (k i) (temperature i)

opened_so : (c : Start) (o : Result Movement Reason) → Opened c.args.sheet.now (length c.args.members.now) (change_of (stored c.args.mean) (stored c.args.curvature) (stored c.args.temperature)) o
    → Opened c.args.sheet.now (length c.args.members.now) (change_of c.args.mean c.args.curvature c.args.temperature) o
opened_so c o opened = subst (λ (x : Change). Opened c.args.sheet.now (length c.args.members.now) x o) (change_is c) opened

pub returns-in_err-movement : goal.returns-in_err-movement
returns-in_err-movement c =
    let a = c.args in
    let p = err_from_is_err_and c.from_residual.result c.from_residual.ensures.1 in
    let reason = c.in_err-movement.field-0.0 in
    rw (p.1, p.2)
    (section_stops a.sheet.now (change_of a.mean a.curvature a.temperature) a.members.now reason
    (opened_so (goal.at.returns-in_err-movement c).Start (Err reason) c.in_err-movement.ensures))

pub returns-in_err-sums : goal.returns-in_err-sums
returns-in_err-sums c =
    let a = c.args in
    let p = err_from_is_err_and c.from_residual-in_err-sums.result c.from_residual-in_err-sums.ensures.1 in
    let x = c.in_ok-movement.movement in
    rw (p.1, p.2)
    (section_is a.sheet.now (change_of a.mean a.curvature a.temperature) a.members.now c.settle.new.members (Ok x) x _
    (opened_so (goal.at.returns-in_err-sums c).Start (Ok x) c.in_ok-movement.ensures) refl c.in_err-sums.ensures.tally c.in_err-sums.ensures.members)

pub returns : goal.returns
returns c =
    let a = c.args in
    let x = c.in_ok-movement.movement in
    let sums = c.in_ok-sums.sums in
    let force = to_z-of_z {w = w64} {z = sums.force} (search rules) in
    let moment = to_z-of_z {w = w64} {z = sums.moment} (search rules) in
    (λ i. section_left (record { number = 0; place = 0; force = force i; moment = moment i }) c.settle.new.members)
    ∙ section_is a.sheet.now (change_of a.mean a.curvature a.temperature) a.members.now c.settle.new.members (Ok x) x _
    (opened_so (goal.at.returns c).Start (Ok x) c.in_ok-movement.ensures) refl c.in_ok-sums.ensures.tally c.in_ok-sums.ensures.members
