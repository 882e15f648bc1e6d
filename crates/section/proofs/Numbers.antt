-- The numbers that a section's lines and a member's lines can give (SPEC 15.4): none is 0, each fits a byte, and none was taken out.
use Prim.Native.Nat.{ℕ}
use mathlib.Core.Path.{◌≡◌, refl}
use mathlib.Core.List.{List, [], ◌∷◌, ◌++◌}
use mathlib.Core.Bool.{Bool}
use Rattle.refusals.specs.Table.{refusal, refused, first_of}
use Rattle.refusals.proofs.FirstLaws.{Numbered, number_given}
use Rattle.sheet.specs.declared.Sheet.{Sheet}
use Rattle.sheet.specs.Sheets.{sheet_refusals, sheet_field_refusals}
use Rattle.state.specs.States.{state_refusals, state_field_refusals, state_of}
use Rattle.rod.specs.Against.{against_refusals}
use Rattle.rod.specs.Steps.{step_refusals, advance_of}
use Rattle.section.specs.declared.Member.{Member}
use Rattle.section.specs.declared.Change.{Change}
use Rattle.section.specs.Sections.{member_pair, member_table, member_answer}

-- The sheet's lines with 14 below them, whenever it applies.
pub lines_numbered : {A : Type 0} (sheet : List ℕ) (t : Bool) (v : A) {n : ℕ} → first_of (sheet_refusals sheet ++ (refusal 14 t ∷ [])) v ≡ refused n → Numbered n
unfolding sheet_refusals sheet_field_refusals
lines_numbered sheet t v e = number_given (sheet_refusals sheet ++ (refusal 14 t ∷ [])) v refl e

pub member_numbered : (h : Sheet) (c : Change) (m : Member) {n : ℕ} → member_answer h c m ≡ refused n → Numbered n
unfolding member_answer member_table state_refusals state_field_refusals against_refusals step_refusals
member_numbered h c m e = number_given (member_table h c m) (advance_of h (state_of m.state) (member_pair c m)) refl e
