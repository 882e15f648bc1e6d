-- Number and place of a verdict (SPEC 8.7, 17.6): a number is below 256 and not the one that was taken out, and a place is that of a pair in
-- the list.
use Prim.Native.Nat.{ℕ, ◌≤◌}
use mathlib.Core.Path.{◌≡◌, refl, subst}
use mathlib.Core.Bool.{Bool, true, false, cond}
use mathlib.Core.List.{List}
use native.Mathlib.Omega.{arith}
use lib.Dec.{eqb}
use lib.ListN.{length}
use Rattle.refusals.specs.Table.{Answer, passes, refused, first_of}
use Rattle.refusals.proofs.FirstLaws.{AllNumbers, InUse, zero_in_use, Numbered, table_numbers, number_stands, both_pass, passes_given, passes_anyhow}
use Rattle.ranges.specs.Ranges.{most_pairs}
use Rattle.pair.specs.Pairs.{pair_length, list_refusals}
use Rattle.sheet.specs.Sheets.{sheet_of}
use Rattle.state.specs.States.{state_of}
use Rattle.carry.specs.Walk.{Walk, rows_of, walk}
use Rattle.judge.specs.Standing.{standing_refusals}
use Rattle.tie_rod.specs.Calls.{run, count_in, pairs_in, place_of}
use Rattle.tie_rod.proofs.PieceLaws.{length_pieces}
use Rattle.tie_rod.proofs.CallLaws.{list_counts}
use Rattle.tie_rod.proofs.Numbers.{opening_numbers, walk_in_use, walk_place}
use Rattle.grade.specs.Grades.{Grading, first_outside, Verdict, verdict, grading_refusals, opening_refusals, verdict_by, verdict_on, grade_of}

pub record Small (v : Verdict) : Type 0 where
  pub number : InUse v.number
  pub place : v.place ≤ most_pairs

module _ (g : Grading) where
  pub grading_numbers : AllNumbers Numbered (grading_refusals g)
  unfolding grading_refusals
  grading_numbers = table_numbers (grading_refusals g) refl

  -- A number of the table,
  by_table : (row : ℕ) → Small (verdict_by (first_of (grading_refusals g) (verdict 0 0 row)))
  by_table row = by_answer (first_of (grading_refusals g) (verdict 0 0 row)) refl
    where
      by_answer : (x : Answer Verdict) → first_of (grading_refusals g) (verdict 0 0 row) ≡ x → Small (verdict_by x)
      by_answer (refused n) e = record { number = (number_stands Numbered (grading_refusals g) (verdict 0 0 row) grading_numbers e).1; place = omega arith }
      by_answer (passes v) e = subst Small (passes_given (grading_refusals g) (verdict 0 0 row) e) (record { number = zero_in_use; place = omega arith })

  -- and one of the walk.
  walked_small : (w : Walk) → InUse w.number → place_of w ≤ most_pairs → Small (verdict_on g w)
  walked_small w number place = by_number (eqb w.number 0)
    where
      row : ℕ
      row = first_outside g.tolerance g.rows 0 (rows_of w.advances)

      by_number : (b : Bool) → Small (cond b (verdict_by (first_of (grading_refusals g) (verdict 0 0 row))) (verdict w.number (place_of w) 0))
      by_number true = by_table row
      by_number false = record { number = number; place = place }

pub grade_small : (sheet state : List ℕ) (g : Grading) → Small (grade_of sheet state g)
unfolding grade_of
grade_small sheet state g = by_opening (first_of (opening_refusals sheet state g) told) refl
  where
    walked : Walk
    walked = walk (sheet_of sheet) (state_of state) (pairs_in g.pairs)

    told : Verdict
    told = verdict_on g walked

    by_opening : (x : Answer Verdict) → first_of (opening_refusals sheet state g) told ≡ x → Small (verdict_by x)
    by_opening (refused n) e =
        record {
          number = (number_stands Numbered (opening_refusals sheet state g) told (opening_numbers sheet state (length g.pairs)) e).1;
          place = omega arith;
        }
    by_opening (passes v) e =
        let count = count_in g.pairs in
        let listed = (both_pass (standing_refusals sheet state) (list_refusals (length g.pairs)) told told e).1 in
        let few = (list_counts run (length g.pairs) (passes_anyhow (list_refusals (length g.pairs)) told count listed)).1 in
        let long : length (pairs_in g.pairs) ≡ count = length_pieces pair_length count g.pairs in
        subst Small (passes_given (opening_refusals sheet state g) told e)
        (walked_small g walked (walk_in_use (sheet_of sheet) (state_of state) (pairs_in g.pairs))
        (omega (arith, walk_place (sheet_of sheet) (state_of state) (pairs_in g.pairs), long, few)))
