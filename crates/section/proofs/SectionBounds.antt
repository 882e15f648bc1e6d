-- How great a section's answer can be: one number of 64 bits holds number and place (SPEC 8.7, 9.10), and force and moment stay far below
-- 2 ^ 63 (SPEC 15.5).
use Prim.Native.Nat.{ℕ, ◌*◌, ◌≤◌}
use mathlib.Core.Path.{◌≡◌, refl}
use mathlib.Core.Bool.{true, not, ◌&&◌}
use mathlib.Core.List.{List, [], ◌∷◌, map}
use borrow.Author.Tests.{not-false}
use native.Mathlib.Omega.{arith}
use lib.IntN.{nat_abs}
use lib.ListN.{length}
use Rattle.refusals.specs.Table.{Answer, passes, refused, first_of}
use Rattle.refusals.proofs.FirstLaws.{InUse, zero_in_use, both_hold, both_pass, passes_line}
use Rattle.ranges.specs.Ranges.{most_rods}
use Rattle.units.proofs.Magnitudes.{magnitude_sum}
use Rattle.sheet.specs.declared.Sheet.{Sheet}
use Rattle.sheet.specs.Sound.{SheetSound}
use Rattle.rod.specs.declared.step.Advance.{Advance}
use Rattle.sheet.specs.Sheets.{sheet_refusals, sheet_of}
use Rattle.section.specs.declared.Member.{Member}
use Rattle.section.specs.declared.Change.{Change}
use Rattle.section.specs.Sections.{member_right, all_right, call_right, section_refusals, force_of, moment_of, most_force, most_moment, sum, Move, Moves, all, stopped, moves_from, SectionLeft, settled, section_by, section_leaves}
use Rattle.section.proofs.MemberLaws.{force_most, force_magnitude, moment_most, moment_magnitude, next_stress_most}
use Rattle.section.proofs.MovesLaws.{Pass, moves_of}
use Rattle.section.proofs.Openings.{change_right}
use Rattle.section.proofs.Numbers.{lines_numbered}
use Rattle.section.proofs.SectionLaws.{stopped_at}

-- What a section that isn't turned away as a whole has passed: count and change, and every member's area and offset.
pub section_right : (sheet : List ℕ) (c : Change) (ms : List Member) {h : Sheet} → first_of (section_refusals sheet c ms) (sheet_of sheet) ≡ passes h
    → (call_right (length ms) c ≡ true) × (all_right ms ≡ true)
unfolding section_refusals
section_right sheet c ms e =
    let both = both_pass (sheet_refusals sheet) _ (sheet_of sheet) (sheet_of sheet) e in
    let line = passes_line 14 (not (call_right (length ms) c && all_right ms)) [] (sheet_of sheet) both.1 in
    both_hold (call_right (length ms) c) (all_right ms) (not-false _ line.0)

pub few_members : (sheet : List ℕ) (c : Change) (ms : List Member) {h : Sheet} → first_of (section_refusals sheet c ms) (sheet_of sheet) ≡ passes h → length ms ≤ most_rods
few_members sheet c ms e = (change_right (length ms) c (section_right sheet c ms e).0).1

-- Number and place have room in one number, and the number is in use.
abbrev pub Small : SectionLeft → Type 0
Small l = InUse l.reply.number × (l.reply.place ≤ most_rods)

pub section_bounds : (sheet : List ℕ) (c : Change) (ms : List Member) → Small (section_leaves sheet c ms)
unfolding section_leaves section_refusals
section_bounds sheet c ms = by_lines (first_of (section_refusals sheet c ms) (sheet_of sheet)) refl
  where
    by_moves : (v : Moves) (h : Sheet) → moves_from h c 1 ms ≡ v → length ms ≤ most_rods → Small (settled v ms)
    by_moves (all vs) h e few = (zero_in_use, omega arith)
    by_moves (stopped n p) h e few = let at = stopped_at h c 1 ms e in (at.numbered.1, omega (arith, at.most, few))

    by_lines : (q : Answer Sheet) → first_of (section_refusals sheet c ms) (sheet_of sheet) ≡ q → Small (section_by q c ms)
    by_lines (refused n) e = ((lines_numbered sheet (not (call_right (length ms) c && all_right ms)) (sheet_of sheet) e).1, omega arith)
    by_lines (passes h) e = by_moves (moves_from h c 1 ms) h refl (few_members sheet c ms e)

-- How great the sums over members that pass can be.
pub sums_most : (h : Sheet) (c : Change) (ms : List Member) (advances : List Advance) → SheetSound h → all_right ms ≡ true → Pass h c ms advances
    → let moves = moves_of h c ms advances in
    (nat_abs (sum (map (λ (v : Move). v.force) moves)) ≤ length ms * most_force) × (nat_abs (sum (map (λ (v : Move). v.moment) moves)) ≤ length ms * most_moment)
unfolding all_right sum
sums_most h c [] advances sound right pass = (omega arith, omega arith)
sums_most h c (m ∷ ms) [] sound right pass = absurd pass
sums_most h c (m ∷ ms) (a ∷ advances) sound right (e, pass) =
    let both = both_hold (member_right m) (all_right ms) right in
    let stress = a.rod.stress.0 in
    let most = next_stress_most h c m sound e in
    let moves = moves_of h c ms advances in
    let (forces, moments) = sums_most h c ms advances sound both.1 pass in (
      omega (arith, magnitude_sum (force_of m stress) (sum (map (λ (v : Move). v.force) moves)), forces, force_magnitude m stress both.0 most, force_most m stress both.0 most),
      omega (arith, magnitude_sum (moment_of m stress) (sum (map (λ (v : Move). v.moment) moves)), moments, moment_magnitude m stress both.0 most, moment_most m stress both.0 most),
    )
