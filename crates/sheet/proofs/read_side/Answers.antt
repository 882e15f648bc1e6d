use Rattle.std.proofs.Common.{rules, arith, ℕ, ◌+◌, ◌≡◌, ◌++◌, length, drop, List, ap, ◌∙◌, length-take-le}
use Rattle.std.proofs.lemmas.List.{length-replicate}
use mathlib.Core.Path.{ap₂}
use Rattle.units.specs.declared.Magnitude.{Magnitude}
use Rattle.curve.specs.Sides.{most_segments, flat}
use Rattle.curve.specs.declared.Segment.{Segment}
use Rattle.curve.specs.declared.Side.{Side}
use Rattle.sheet.specs.Sheets.{segment_in, length_right, lengths_right}
use Rattle.sheet.specs.ReaderAnswers.{right_or_field}
use Rattle.sheet.proofs.SheetLaws.{listed_from, placed_in, part_read}
use Rattle.sheet.proofs.read_side.Goals as goal

-- The segments that were read stand in front of the places that none has.
pub returns : goal.returns
unfolding lengths_right
returns c yield e =
    let a = c.args in
    let read = c.read_each.ensures (length_right a.s.now a.first a.count) (λ (i : ℕ). segment_in a.s.now (a.first + i)) (λ i r h e. search rules) in
    let room : length a.side.now.segments ≡ 7 = ap length c.requires.2 ∙ length-replicate most_segments flat in
    let counted = length-take-le a.count a.side.now.segments (omega (arith, room, c.requires.1)) in
    let side : Magnitude → List Segment → Side = λ y l. record { yield_stress = y; count = a.count; segments = l } in
    part_read (λ (l : List Segment). side a.yield_stress (l ++ drop a.count a.side.now.segments)) _ _ _ c.read_each.result
    (rw (counted, listed_from (segment_in a.s.now) a.first a.count) at read)
    ∙ ap (right_or_field (lengths_right a.s.now a.first a.count)) (ap₂ side e (placed_in most_segments flat (segment_in a.s.now) a.first a.count c.requires.2))
