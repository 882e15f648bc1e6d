use Rattle.std.proofs.Common.{rules, arith, ℕ, ◌≡◌, ◌++◌, length, drop, List, ap, ◌∙◌, length-take-le}
use Rattle.std.proofs.lemmas.List.{length-replicate}
use mathlib.Core.Path.{ap₂}
use Rattle.expansion.specs.declared.Point.{Point}
use Rattle.expansion.specs.declared.Points.{Points}
use Rattle.expansion.specs.Points.{most_points, no_point}
use Rattle.sheet.specs.Sheets.{point_in, point_count, point_fields_right, points_right}
use Rattle.sheet.specs.ReaderAnswers.{right_or_field}
use Rattle.sheet.proofs.SheetLaws.{placed_in, part_read}
use Rattle.sheet.proofs.read_points.Goals as goal

-- The points that were read stand in front of the places that none has.
pub returns : goal.returns
unfolding points_right
returns c =
    let s = c.args.s.now in
    let old = c.args.points.now in
    let read = c.read_each.ensures (point_fields_right s) (point_in s) (λ i r h e. search rules) in
    let room : length old.places ≡ 8 = ap length c.requires.3 ∙ length-replicate most_points no_point in
    let counted = length-take-le old.count old.places (omega (arith, room, c.requires.2)) ∙ c.requires.1 in
    let points : ℕ → List Point → Points = λ n l. record { count = n; places = l } in
    let behind : drop old.count old.places ≡ drop (point_count s) old.places = ap (λ (n : ℕ). drop n old.places) c.requires.1 in
    part_read (λ (l : List Point). points old.count (l ++ drop old.count old.places)) _ _ _ c.read_each.result (rw counted at read)
    ∙ ap (right_or_field (points_right s)) (ap₂ points c.requires.1 (rw behind (placed_in most_points no_point (point_in s) 0 (point_count s) c.requires.3)))
