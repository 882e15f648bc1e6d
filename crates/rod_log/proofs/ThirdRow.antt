-- The board's third row (SPEC 13.1): the bytes of its log have the text that the papers print for it, with the branch behind it, computed
-- over the definitions.
use Prim.Native.Nat.{ℕ}
use mathlib.Core.Path.{◌≡◌, refl}
use mathlib.Core.List.{List, [], ◌∷◌, ◌++◌}
use Rattle.refusals.specs.Table.{first_of}
use Rattle.bits.specs.Field.{field, twos, bits_of}
use Rattle.bits.specs.Layout.{widths, packed, bytes_of}
use Rattle.law.specs.Laws.{law_of}
use Rattle.branch.specs.Branches.{branch_of}
use Rattle.curve.specs.Curve.{rise, height, limit_at}
use Rattle.curve.specs.Sides.{segments_of, curve_of}
use Rattle.curve.specs.Tangent.{spans, tangent_in, tangent_at}
use Rattle.sheet.specs.Sheets.{all_below, length_wrong, sheet_counts_right, constants_right, yields_right, header_right, lengths_right, points_right, tangents_right, sheet_field_refusals, sheet_refusals, listed, placed, sheet_of}
use Rattle.sheet.specs.Thermal.{thermal_of}
use Rattle.expansion.specs.Points.{temperatures_rise}
use Rattle.expansion.specs.Coefficient.{coefficient_in}
use Rattle.pair.specs.Pairs.{pair_in_range, pair_refusals, list_refusals}
use Rattle.row.specs.Rows.{row_bytes}
use Rattle.flow.specs.Stored.{isotropic_stored, side_stored}
use Rattle.response.specs.Response.{isotropic_moved, outcome_under}
use Rattle.rod.specs.Against.{against_refusals, belongs, isotropic_belongs}
use Rattle.rod.specs.WithinLimit.{within_limit}
use Rattle.state.specs.States.{state_refusals}
use Rattle.rod.specs.Steps.{trial_of, advance_of, strain_leaves, leaves_range, step_refusals}
use Rattle.carry.specs.Walk.{pair_table, pair_answer, walk, rows_bytes}
use Rattle.judge.specs.Standing.{standing_refusals}
use Rattle.tie_rod.specs.Calls as calls
use Rattle.state.specs.States as states
use Rattle.rod.specs.InRange as rods
use Rattle.rod_log.specs.Lines.{line_of, lines_from, lines_of, last_line}
use Rattle.rod_log.specs.Texts.{ascii, digits_within, numeral, signed_numeral}
use Rattle.rod_log.specs.Logs.{log_refusals, told_by, told_of, text_of}

-- The sheet, the state and the two pairs.
abbrev pub sheet : List ℕ
sheet = 8 ∷ 48 ∷ 212 ∷ 1 ∷ 44 ∷ 0 ∷ 50 ∷ 0 ∷ 195 ∷ 80 ∷ 0 ∷ 0 ∷ 0 ∷ 0 ∷ 0 ∷ 0 ∷ 0 ∷ 0 ∷ 7 ∷ 208 ∷ []

abbrev pub state : List ℕ
state = 0 ∷ 0 ∷ 0 ∷ 0 ∷ 0 ∷ 0 ∷ 200 ∷ 0 ∷ 0 ∷ 0 ∷ 0 ∷ 0 ∷ 0 ∷ 0 ∷ 0 ∷ 0 ∷ 46 ∷ 144 ∷ 237 ∷ 208 ∷ 0 ∷ 0 ∷ 0 ∷ 0 ∷ 0 ∷ 0 ∷ 0 ∷ 0 ∷ 0 ∷ 0 ∷ 0 ∷ 0 ∷ 0 ∷ 0 ∷ 0 ∷ 0 ∷ 0 ∷ []

abbrev pub pairs : List ℕ
pairs = 0 ∷ 22 ∷ 227 ∷ 96 ∷ 0 ∷ 200 ∷ 31 ∷ 210 ∷ 57 ∷ 64 ∷ 0 ∷ 200 ∷ []

pub third_row : text_of (sheet ++ state ++ pairs)
    ≡ ascii "pair stress plastic tangent yielded branch\n1 201000000000 99000000000 2000 1 1\n2 -202980000000 -97020000000 2000 1 2\nend 2\n"
unfolding text_of told_of told_by log_refusals lines_of lines_from line_of last_line numeral digits_within signed_numeral first_of field twos bits_of widths packed bytes_of law_of branch_of rise height limit_at segments_of curve_of spans tangent_in tangent_at all_below length_wrong sheet_counts_right constants_right yields_right header_right lengths_right points_right tangents_right temperatures_rise sheet_field_refusals sheet_refusals listed placed sheet_of thermal_of coefficient_in pair_in_range pair_refusals list_refusals row_bytes isotropic_stored side_stored isotropic_moved outcome_under against_refusals belongs isotropic_belongs within_limit state_refusals trial_of advance_of strain_leaves leaves_range step_refusals standing_refusals pair_table pair_answer walk rows_bytes calls.pieces states.state_field_refusals rods.rod_in_range
third_row = refl
