use Rattle.std.proofs.Common.{◌≡◌, ◌+◌, ◌<◌, ◌^◌, rules, arith, sym, subst, ◌∙◌, nat_abs, ◌+ℤ◌, ◌*ℤ◌, to_z, w64}
use mathlib.Core.Path.{ap₂}
use mir.Facts.{to_z-of_z, to_z_pos}
use mir.Val.{SFits}
use Rattle.units.proofs.Magnitudes.{magnitude_sum}
use Rattle.units.proofs.Words.{stored, fits_of_magnitude}
use Rattle.section.specs.Sections.{force_of, moment_of}
use Rattle.section.proofs.MemberLaws.{member_ranges, force_most, force_magnitude, moment_most, moment_magnitude}
use Rattle.section.proofs.each.added.Goals as goal
use Rattle.section.proofs.each.added.Goals.{Start, After-cut}

-- Area, and the parts of force and moment, far below 2 ^ 63
area_below : (c : Start) → c.args.member.area < 2 ^ 63
area_below c = omega (arith, (member_ranges c.args.member c.requires.1).area_most)

force_below : (c : Start) → nat_abs (force_of c.args.member c.args.stress.0) < 2 ^ 63
force_below c =
    let a = c.args in
    omega (arith, force_magnitude a.member a.stress.0 c.requires.1 c.requires.2, force_most a.member a.stress.0 c.requires.1 c.requires.2)

moment_below : (c : Start) → nat_abs (moment_of c.args.member c.args.stress.0) < 2 ^ 63
moment_below c =
    let a = c.args in
    omega (arith, moment_magnitude a.member a.stress.0 c.requires.1 c.requires.2, moment_most a.member a.stress.0 c.requires.1 c.requires.2)

pub overflow_cast-area : goal.overflow_cast-area
overflow_cast-area c = fits_of_magnitude _ (area_below (goal.at.overflow_cast-area c).Start)

-- What the machine multiplies is the force
force_is : (c : After-cut) → let a = c.args in stored c.cut.result *ℤ to_z w64 a.member.area ≡ force_of a.member a.stress.0
force_is c =
    ap₂ ◌*ℤ◌ (to_z-of_z {w = w64} {z = c.cut.result} (search rules) ∙ c.cut.ensures) (to_z_pos w64 (area_below (goal.at.overflow_mul-force c).Start))

pub overflow_mul-force : goal.overflow_mul-force
overflow_mul-force c = subst (SFits w64) (sym (force_is c)) (fits_of_magnitude _ (force_below (goal.at.overflow_mul-force c).Start))

force_kept : (c : After-cut) → let a = c.args in stored (stored c.cut.result *ℤ to_z w64 a.member.area) ≡ force_of a.member a.stress.0
force_kept c = to_z-of_z (overflow_mul-force c) ∙ force_is c

-- And then the moment.
moment_is : (c : After-cut) → let a = c.args in
    stored (stored c.cut.result *ℤ to_z w64 a.member.area) *ℤ stored a.member.offset ≡ moment_of a.member a.stress.0
moment_is c = ap₂ ◌*ℤ◌ (force_kept c) (to_z-of_z {w = w64} {z = c.args.member.offset} (search rules))

moment_fits : (c : After-cut) → let a = c.args in
    SFits w64 (stored (stored c.cut.result *ℤ to_z w64 a.member.area) *ℤ stored a.member.offset)
moment_fits c = subst (SFits w64) (sym (moment_is c)) (fits_of_magnitude _ (moment_below (goal.at.overflow_mul-force c).Start))

pub overflow_mul-moment : goal.overflow_mul-moment
overflow_mul-moment c = moment_fits (goal.at.overflow_mul-moment c).After-cut

moment_kept : (c : After-cut) → let a = c.args in
    stored (stored (stored c.cut.result *ℤ to_z w64 a.member.area) *ℤ stored a.member.offset) ≡ moment_of a.member a.stress.0
moment_kept c = to_z-of_z (moment_fits c) ∙ moment_is c

-- The sums: what the tally holds and one part more.
forces_are : (c : After-cut) → let a = c.args in
    stored a.sums.force +ℤ stored (stored c.cut.result *ℤ to_z w64 a.member.area) ≡ a.sums.force +ℤ force_of a.member a.stress.0
forces_are c = ap₂ ◌+ℤ◌ (to_z-of_z {w = w64} {z = c.args.sums.force} (search rules)) (force_kept c)

forces_fit : (c : After-cut) → let a = c.args in SFits w64 (stored a.sums.force +ℤ stored (stored c.cut.result *ℤ to_z w64 a.member.area))
forces_fit c =
    let a = c.args in
    let room = c.requires.0 in
    subst (SFits w64) (sym (forces_are c))
    (fits_of_magnitude _ (omega (arith, magnitude_sum a.sums.force (force_of a.member a.stress.0), room.seen, room.force, force_magnitude a.member a.stress.0 c.requires.1 c.requires.2, force_most a.member a.stress.0 c.requires.1 c.requires.2)))

moments_are : (c : After-cut) → let a = c.args in
    stored a.sums.moment +ℤ stored (stored (stored c.cut.result *ℤ to_z w64 a.member.area) *ℤ stored a.member.offset)
    ≡ a.sums.moment +ℤ moment_of a.member a.stress.0
moments_are c = ap₂ ◌+ℤ◌ (to_z-of_z {w = w64} {z = c.args.sums.moment} (search rules)) (moment_kept c)

moments_fit : (c : After-cut) → let a = c.args in
    SFits w64 (stored a.sums.moment +ℤ stored (stored (stored c.cut.result *ℤ to_z w64 a.member.area) *ℤ stored a.member.offset))
moments_fit c =
    let a = c.args in
    let room = c.requires.0 in
    subst (SFits w64) (sym (moments_are c))
    (fits_of_magnitude _ (omega (arith, magnitude_sum a.sums.moment (moment_of a.member a.stress.0), room.seen, room.moment, moment_magnitude a.member a.stress.0 c.requires.1 c.requires.2, moment_most a.member a.stress.0 c.requires.1 c.requires.2)))

pub overflow_add-result : goal.overflow_add-result
overflow_add-result c = forces_fit (goal.at.overflow_add-result c).After-cut

pub overflow_add-result-2 : goal.overflow_add-result-2
overflow_add-result-2 c = moments_fit (goal.at.overflow_add-result-2 c).After-cut

pub returns : goal.returns
returns c =
    let cut = (goal.at.returns c).After-cut in
    let force = to_z-of_z (forces_fit cut) ∙ forces_are cut in
    let moment = to_z-of_z (moments_fit cut) ∙ moments_are cut in
    λ i. record { number = 0; place = 0; force = force i; moment = moment i; seen = c.args.sums.seen + 1 }
