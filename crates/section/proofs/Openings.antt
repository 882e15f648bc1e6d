-- What a section's call begins with (SPEC 15.7): a refusal, or room for all its rods.
use Prim.Native.Nat.{ℕ, ◌≤◌}
use mathlib.Core.Path.{◌≡◌, sym, ap}
use mathlib.Core.Bool.{true}
use mathlib.Core.List.{List}
use borrow.Author.Tests.{leb-true}
use native.Mathlib.Omega.{arith}
use lib.Dec.{leb}
use Rattle.std.specs.Prelude.{Ok, Err}
use Rattle.refusals.specs.declared.Reason.{Reason}
use Rattle.refusals.specs.Reasons.{number_of}
use Rattle.refusals.specs.Table.{passes, refused, first_of}
use Rattle.refusals.proofs.FirstLaws.{both_hold, three_hold}
use Rattle.bits.specs.Field.{within}
use Rattle.ranges.specs.Ranges.{around, most_rods, most_change, most_curvature}
use Rattle.sheet.specs.declared.Sheet.{Sheet}
use Rattle.sheet.specs.Sheets.{sheet_of}
use Rattle.section.specs.declared.Change.{Change}
use Rattle.section.specs.declared.Movement.{Movement}
use Rattle.section.specs.Sections.{call_right}
use Rattle.section.specs.Tallies.{ChangeRight, Room, Opened, bare_tally, start_by, open_refusals}

-- The change and the count of a call that is right.
pub change_right : (members : ℕ) (c : Change) → call_right members c ≡ true → ChangeRight c × (members ≤ most_rods)
unfolding call_right
change_right members c e =
    let (count, mean, curvature) = three_hold (within 1 most_rods members) (around most_change c.mean.0) (around most_curvature c.curvature.0) e in
    (record { mean = mean; curvature = curvature }, leb-true members most_rods (both_hold (leb 1 members) (leb members most_rods) count).1)

module _ (sheet : List ℕ) (members : ℕ) (c : Change) where
  pub opened_refused : (r : Reason) → first_of (open_refusals sheet members c) (sheet_of sheet) ≡ refused (number_of r) → Opened sheet members c (Err r)
  opened_refused r e = record { start = sym (ap start_by e); movement = tt; ready = tt }

  pub opened_passes : {h : Sheet} (x : Movement) → first_of (open_refusals sheet members c) (sheet_of sheet) ≡ passes h
      → x.material.now.sheet ≡ sheet_of sheet → x.change ≡ c → call_right members c ≡ true → Opened sheet members c (Ok x)
  opened_passes x e same change right =
      let room : Room members (bare_tally 0 0) = record { seen = omega (arith, (change_right members c right).1); force = omega arith; moment = omega arith } in
      record { start = sym (ap start_by e); movement = (same, change); ready = λ goes. room }
