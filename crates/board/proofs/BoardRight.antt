-- SPEC 13.2: the board's rows, computed and proved together; and for the last of them the fraction that is rounded.
use mathlib.Core.Path.{refl}
use lib.Dec.{lit<}
use lib.IntN.{pos}
use Rattle.refusals.specs.Table.{first_of}
use Rattle.fractions.specs.Fraction.{◌≈F◌, whole, ◌+F◌, neg_f, ◌-F◌, abs_f, signed_f, le_f}
use Rattle.bits.specs.Field.{field, twos, bits_of}
use Rattle.bits.specs.Layout.{widths, packed, bytes_of}
use Rattle.law.specs.Laws.{law_of}
use Rattle.curve.specs.Curve.{rise, height, limit_at, limit_f}
use Rattle.curve.specs.Tangent.{spans, tangent_in, tangent_at}
use Rattle.curve.specs.Sides.{segments_of, curve_of}
use Rattle.expansion.specs.Points.{temperatures_rise}
use Rattle.expansion.specs.Coefficient.{coefficient_in}
use Rattle.sheet.specs.Sheets.{all_below, length_wrong, sheet_counts_right, constants_right, yields_right, header_right, lengths_right, points_right, tangents_right, sheet_field_refusals, sheet_refusals, listed, placed, sheet_of}
use Rattle.sheet.specs.Thermal.{thermal_of}
use Rattle.sheet.specs.Bytes.{all_bytes, sheet_bytes}
use Rattle.pair.specs.Pairs.{pair_in_range, pair_of, pair_refusals, pair_bytes}
use Rattle.flow.specs.CurveSide.{side_of}
use Rattle.flow.specs.Solution.{isotropic}
use Rattle.flow.specs.Stored.{side_stored, isotropic_stored, kinematic_stored}
use Rattle.response.specs.Response.{isotropic_moved, kinematic_moved, asymmetric_outcome, outcome_under}
use Rattle.rod.specs.Unused.{unused_of}
use Rattle.rod.specs.Steps.{trial_of, advance_of, strain_leaves, leaves_range, step_refusals}
use Rattle.carry.specs.Walk.{pair_table, pair_answer, walk}
use Rattle.board.specs.Board.{board, soft_steel, soft_pull, AllRight}

-- All nine rows.
pub board_right : AllRight board
unfolding board walk pair_answer pair_table pair_refusals pair_bytes pair_in_range first_of step_refusals strain_leaves leaves_range advance_of trial_of thermal_of coefficient_in unused_of outcome_under isotropic_moved kinematic_moved asymmetric_outcome isotropic_stored kinematic_stored side_stored limit_at height rise tangent_at tangent_in spans curve_of segments_of placed field twos bits_of widths packed bytes_of law_of all_below length_wrong sheet_counts_right constants_right yields_right header_right lengths_right points_right tangents_right temperatures_rise sheet_field_refusals sheet_refusals listed sheet_of all_bytes sheet_bytes
board_right =
    (record { sheet_passes = refl; pairs_pass = refl; rows_right = refl }, (record { sheet_passes = refl; pairs_pass = refl; rows_right = refl }, (record { sheet_passes = refl; pairs_pass = refl; rows_right = refl }, (record { sheet_passes = refl; pairs_pass = refl; rows_right = refl }, (record { sheet_passes = refl; pairs_pass = refl; rows_right = refl }, (record { sheet_passes = refl; pairs_pass = refl; rows_right = refl }, (record { sheet_passes = refl; pairs_pass = refl; rows_right = refl }, (record { sheet_passes = refl; pairs_pass = refl; rows_right = refl }, (record { sheet_passes = refl; pairs_pass = refl; rows_right = refl }, tt)))))))))

-- The exact stress of the last row's pair is 3000002 / 3, two thirds of a grain above what is stored.
pub last_fraction : (isotropic (side_of soft_steel.modulus.0 (lit< tt) (curve_of soft_steel.tension)) (whole (trial_of soft_steel (unused_of soft_steel) (pair_of soft_pull)))
    (whole (unused_of soft_steel).first.0)).stress
    ≈F record { num = pos 3000002; den = 3; den_pos = lit< tt }
unfolding isotropic limit_f height rise curve_of segments_of placed le_f whole ◌+F◌ ◌-F◌ neg_f abs_f signed_f trial_of unused_of thermal_of coefficient_in pair_bytes field twos bits_of widths packed bytes_of
last_fraction = record { cross = refl }
