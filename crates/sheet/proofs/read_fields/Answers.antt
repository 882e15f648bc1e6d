-- The sheet that was read is the bytes', and its tests are theirs.
use Rattle.std.proofs.Common.{ℕ, List, Ok, true, false, ◌&&◌, ◌≤◌, ◌≡◌, ap}
use mathlib.Core.Path.{ap₂}
use Rattle.refusals.specs.Table.{first_of}
use Rattle.expansion.specs.Points.{most_points, points_of, count_of, temperatures_rise}
use Rattle.sheet.specs.declared.Sheet.{Sheet}
use Rattle.sheet.specs.Sheets.{tension_count, compression_count, tension_yield, compression_yield, point_count, expansion_in, header_right, lengths_right, tangents_right, both_sides, point_in, points_in, points_right, sheet_field_refusals, sheet_of}
use Rattle.sheet.specs.ReaderAnswers.{side_falls, values_in}
use Rattle.sheet.proofs.SheetLaws.{few_segments, points_fit, points_held, read_tells}
use Rattle.sheet.proofs.Passed.{held_few}
use Rattle.sheet.proofs.TangentLaws.{side_falls_as}
use Rattle.refusals.proofs.FirstLaws.{three_hold}
use Rattle.sheet.proofs.read_fields.Goals as goal

module _ (s : List ℕ) {h : Sheet} (read : Ok h ≡ values_in s) where
  is : (header_right s && both_sides s (lengths_right s) && points_right s ≡ true) × (h ≡ sheet_of s)
  is = read_tells _ (sheet_of s) read

  few : (h.tension.count ≤ 7) × (h.compression.count ≤ 7)
  unfolding sheet_of
  few = rw is.1 (few_segments s)

  few_points : count_of h.expansion ≤ most_points
  unfolding sheet_of
  few_points =
      let few = points_fit s (three_hold (header_right s) (both_sides s (lengths_right s)) (points_right s) is.0).0 in
      rw is.1 (held_few (point_count s) (expansion_in s) (point_in s) few)

  falls : side_falls h.tension h.modulus.0 && side_falls h.compression h.modulus.0 ≡ both_sides s (tangents_right s)
  unfolding sheet_of
  falls = rw is.1 (ap₂ ◌&&◌ (side_falls_as s (tension_yield s) 0 (tension_count s)) (side_falls_as s (compression_yield s) (tension_count s) (compression_count s)))

  rises : temperatures_rise (points_of h.expansion) ≡ temperatures_rise (points_in s)
  unfolding sheet_of
  rises = rw is.1 (ap temperatures_rise (points_held s))

pub tangents_fall-falls-requires : goal.tangents_fall-falls-requires
tangents_fall-falls-requires c = few c.args.s.now c.in_ok-read_values.ensures

pub rise-rises-requires : goal.rise-rises-requires
rise-rises-requires c = few_points c.args.s.now c.in_ok-read_values.ensures

pub returns-then-not-falls : goal.returns-then-not-falls
unfolding first_of sheet_field_refusals
returns-then-not-falls c =
    let s = c.args.s.now in
    let wrong : both_sides s (tangents_right s) ≡ false = cc (falls s c.in_ok-read_values.ensures) in
    simp ((is s c.in_ok-read_values.ensures).0, wrong)

pub returns-then-not-rises : goal.returns-then-not-rises
unfolding first_of sheet_field_refusals
returns-then-not-rises c =
    let s = c.args.s.now in
    let fall : both_sides s (tangents_right s) ≡ true = cc (falls s c.in_ok-read_values.ensures) in
    let wrong : temperatures_rise (points_in s) ≡ false = cc (rises s c.in_ok-read_values.ensures) in
    simp ((is s c.in_ok-read_values.ensures).0, fall, wrong)

pub returns : goal.returns
unfolding first_of sheet_field_refusals
returns c =
    let s = c.args.s.now in
    let read = is s c.in_ok-read_values.ensures in
    let fall : both_sides s (tangents_right s) ≡ true = cc (falls s c.in_ok-read_values.ensures) in
    let rise : temperatures_rise (points_in s) ≡ true = cc (rises s c.in_ok-read_values.ensures) in
    rw read.1 (simp (read.0, fall, rise))
