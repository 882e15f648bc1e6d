use Rattle.std.proofs.Common.{arith, ℕ, ◌+◌, ◌*◌, ◌≡◌, sym, ap, ◌∙◌}
use mathlib.Core.Path.{ap₂}
use Rattle.units.specs.Kinds.{grain}
use Rattle.bits.specs.Field.{field, twos}
use Rattle.bits.specs.Layout.{offset, width_at}
use Rattle.bits.proofs.FieldLaws.{field_in_piece}
use Rattle.bits.proofs.SignLaws.{held_as}
use Rattle.row.specs.Rows.{row_layout, row_length}
use Rattle.row.proofs.Row.stress_at.Goals as goal

pub returns : goal.returns
returns c =
    let a = c.args in
    let w = width_at row_layout 3 in
    let from = offset row_layout 3 in
    let at : 8 * row_length * a.j + from ≡ 8 * (row_length * a.j) + from = omega arith in
    let wide : c.behind.result.width ≡ w = c.behind.ensures.width in
    let there : c.behind.result.at ≡ 8 * (row_length * a.j) + from = c.behind.ensures.at ∙ at in
    ap grain
    (held_as c.read.type_inv c.read.ensures
    ∙ ap₂ (λ (k n : ℕ). twos n (field a.rows.now k n)) there wide
    ∙ ap (twos w) (sym (field_in_piece a.rows.now (row_length * a.j) row_length from w (omega arith))))
