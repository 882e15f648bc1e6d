-- What stands there before the points are read tells whether there are any.
use Rattle.std.proofs.Common.{sym, ap, ◌≡◌, ◌+◌, ◌∙◌, ℕ, [], Ok}
use Rattle.expansion.specs.declared.Points.{Points}
use Rattle.expansion.specs.declared.Coefficients.{Coefficients}
use Rattle.expansion.specs.declared.Coefficients.TheVariants.{Single}
use Rattle.units.specs.declared.Expansion.{Expansion}
use Rattle.sheet.specs.declared.Counts.{Counts}
use Rattle.sheet.specs.Sheets.{all_below, placed, point_count, points_right, coefficients_by}
use Rattle.sheet.proofs.SheetLaws.{some_by, none_by}
use Rattle.sheet.proofs.read_coefficients.Goals as goal

pub read_points-requires : goal.read_points-requires
unfolding placed
read_points-requires c =
    let points = some_by c.args.counts.points c.args.single.0 [] _ (sym c.unread.ensures ∙ c.in-AtPoints.is) in (
      ap (λ (k : Counts). k.tension + k.compression) c.requires.0,
      ap (λ (p : Points). p.count) points ∙ ap (λ (k : Counts). k.points) c.requires.0,
      rw points c.requires.1,
      ap (λ (p : Points). p.places) points,
    )

pub returns-in-Single : goal.returns-in-Single
unfolding points_right all_below
returns-in-Single c =
    let none = none_by c.args.counts.points c.args.single.0 [] _ (sym c.unread.ensures ∙ c.in-Single.is) in
    let single = c.unread.ensures ∙ ap (λ (n : ℕ). coefficients_by n c.args.single.0 []) none ∙ ap (λ (a : Expansion). Single a) c.requires.2 in
    let counted : point_count c.args.s.now ≡ 0 = sym (ap (λ (k : Counts). k.points) c.requires.0) ∙ none in
    rw counted (ap (λ (e : Coefficients). Ok e) single)
