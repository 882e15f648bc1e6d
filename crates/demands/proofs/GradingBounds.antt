-- Demand 3 for gradings (SPEC 17.8): what a verdict says of their stresses beside the bar without rounding. It follows from demand 3 of the
-- run of the same pairs, whose rows the verdict compares theirs with.
use Prim.Native.Nat.{ℕ, ◌+◌, ◌≤◌, ◌<◌}
use mathlib.Core.Path.{◌≡◌, refl, sym, ap, subst, ◌∙◌}
use mathlib.Core.Bool.{Bool, true, false, not}
use mathlib.Core.List.{List, [], ◌∷◌, ◌++◌, map, append_assoc}
use mathlib.Core.Logic.{inl, inr}
use native.Mathlib.Omega.{arith}
use borrow.Author.Tests.{eq-eqb}
use lib.Dec.{T}
use lib.IntN.{ℤ, pos, nat_abs, ◌-ℤ◌}
use lib.Signed.{lt_z, ◌≤ℤ◌, ◌<ℤ◌, le_z_yes, lt_z_yes}
use Rattle.fractions.specs.Fraction.{whole, Within}
use Rattle.fractions.proofs.Arithmetic.{close_through, far_through}
use Rattle.refusals.specs.Table.{Given}
use Rattle.refusals.proofs.FirstLaws.{Numbered, number_stands, given_refused}
use Rattle.bits.proofs.SignLaws.{le_z_is_not_lt_z}
use Rattle.units.specs.declared.Grain.{Grain}
use Rattle.row.specs.declared.Row.{Row}
use Rattle.row.specs.Rows.{row_of, row_length}
use Rattle.sheet.specs.declared.Sheet.{Sheet}
use Rattle.sheet.specs.Sheets.{sheet_of}
use Rattle.sheet.specs.Sound.{SheetSound}
use Rattle.rod.specs.declared.Rod.{Rod}
use Rattle.state.specs.States.{state_of}
use Rattle.accuracy.specs.Within.{LastRowShows}
use Rattle.accuracy.specs.Bar.{bar_after}
use Rattle.tie_rod.specs.Calls.{pieces, piece_at, count_in}
use Rattle.tie_rod.proofs.PieceLaws.{pieces_then}
use Rattle.grade.specs.Grades.{Grading, stress_at, Verdict, verdict, grading_refusals, grade_of}
use Rattle.grade.proofs.Numbers.{grading_numbers}
use Rattle.demands.specs.Lists.{Situation, accepted_in, Holds, AtCall}
use Rattle.demands.specs.Gradings.{own_run, ran, Agrees, GradeReason, behind, yielded_up_to, CloseAt, FarAt, AtGrading}
use Rattle.demands.proofs.Splits.{map_append}
use Rattle.demands.proofs.GradingAnswers.{grading_answered}

-- The last row shows the rod's stress.
last_shows : (h : Sheet) (rows : List Row) (row : Row) (r : Rod) → LastRowShows h (rows ++ (row ∷ [])) r → row.stress ≡ r.stress
last_shows h [] row r shows = shows.1
last_shows h (x ∷ []) row r shows = shows.1
last_shows h (x ∷ (y ∷ rows)) row r shows = last_shows h (y ∷ rows) row r shows

-- A whole number that isn't at most another is above it.
not_at_most : (a b : ℤ) → (a ≤ℤ b → ⊥) → b <ℤ a
not_at_most a b more = by_test (lt_z b a) refl
  where
    by_test : (t : Bool) → lt_z b a ≡ t → b <ℤ a
    by_test true e = lt_z_yes (subst T (sym e) tt)
    by_test false e = absurd (more (le_z_yes (subst T (sym (le_z_is_not_lt_z b a ∙ ap not e)) tt)))

module _ (sheet : List ℕ) (sound : SheetSound (sheet_of sheet)) (s : Situation) (g : Grading) (at : AtCall sheet sound s (own_run g)) where
  abbrev state : List ℕ
  state = s.state

  abbrev ours : (j : ℕ) → ℤ
  ours j = stress_at (ran sheet state g).rows j

  module _ (accepted : (ran sheet state g).reply.number ≡ 0) (j : ℕ) (there : j < count_in g.pairs) where
    -- All of demand 3 holds behind row j,
    stop : Holds sheet sound (behind sheet s g j)
    unfolding accepted_in
    stop =
        let all : accepted_in sheet state (own_run g) ≡ count_in g.pairs = rw (eq-eqb (ran sheet state g).reply.number 0 accepted) refl in
        at.stops (j + 1) (omega (arith, all))

    -- whose stress is the state's there.
    shown : ours j ≡ (state_of (behind sheet s g j).state).stress.0
    shown =
        let rows = (ran sheet state g).rows in
        let before = map row_of (pieces row_length j rows) in
        let row = row_of (piece_at row_length j rows) in
        let last : (behind sheet s g j).rows ≡ (s.rows ++ before) ++ (row ∷ []) =
        ap (λ (l : List (List ℕ)). s.rows ++ map row_of l) (pieces_then row_length j rows)
        ∙ ap (λ (l : List Row). s.rows ++ l) (map_append row_of (pieces row_length j rows) (piece_at row_length j rows ∷ []))
        ∙ sym (append_assoc s.rows before (row ∷ [])) in
        let rod = state_of (behind sheet s g j).state in
        ap (λ (x : Grain). x.0) (last_shows (sheet_of sheet) (s.rows ++ before) row rod (subst (λ (l : List Row). LastRowShows (sheet_of sheet) l rod) last stop.within.row_shows))

    near_bar : Within (yielded_up_to sheet s g j) (whole (ours j)) (bar_after (sheet_of sheet) sound (behind sheet s g j).history).stress
    near_bar = subst (λ (z : ℤ). Within (yielded_up_to sheet s g j) (whole z) (bar_after (sheet_of sheet) sound (behind sheet s g j).history).stress) (sym shown) stop.within.within.stress

    close_at : Agrees sheet state g j → CloseAt sheet s g sound j
    close_at agrees = record { counted = stop.within.k_counted; close = close_through (stress_at g.rows j) (ours j) g.tolerance agrees near_bar }

    far_at : (Agrees sheet state g j → ⊥) → FarAt sheet s g sound j
    far_at off =
        record {
          counted = stop.within.k_counted;
          far = far_through (stress_at g.rows j) (ours j) g.tolerance (not_at_most (pos (nat_abs (stress_at g.rows j -ℤ ours j))) g.tolerance off) near_bar;
        }

  reason : {v : Verdict} → grade_of sheet state g ≡ v → GradeReason sheet state g v
  reason {v} e = ((grading_answered sheet state g).exactly v).0 e

  -- A verdict without a number comes from the rows,
  numberless : {row n place : ℕ} → verdict 0 0 row ≡ verdict n place 0 → n ≡ 0
  numberless e = sym (ap (λ (v : Verdict). v.number) e)

  no_own : {n : ℕ} → Given (grading_refusals g) n → n ≡ 0 → ⊥
  no_own given = (number_stands Numbered (grading_refusals g) g (grading_numbers g) (given_refused (grading_refusals g) g given)).0

  -- and says which of them.
  same_row : {row other : ℕ} → verdict 0 0 row ≡ verdict 0 0 other → row ≡ other
  same_row e = ap (λ (v : Verdict). v.row) e

  all_close : grade_of sheet state g ≡ verdict 0 0 0 → (j : ℕ) → j < count_in g.pairs → CloseAt sheet s g sound j
  all_close e j there = by_reason (reason e)
    where
      by_reason : GradeReason sheet state g (verdict 0 0 0) → CloseAt sheet s g sound j
      by_reason (inl w) = absurd (w.refused (numberless w.is))
      by_reason (inr (inl w)) = absurd (no_own w.given (numberless w.is))
      by_reason (inr (inr (inl w))) = absurd (omega (arith, same_row w.is))
      by_reason (inr (inr (inr w))) = close_at w.accepted j there (w.each j there)

  module _ (j : ℕ) (e : grade_of sheet state g ≡ verdict 0 0 (j + 1)) where
    -- The row that is named is the reason's.
    record Named : Type 0 where
      accepted : (ran sheet state g).reply.number ≡ 0
      there : j < count_in g.pairs
      before : (i : ℕ) → i < j → Agrees sheet state g i
      outside : Agrees sheet state g j → ⊥

    names : Named
    names = by_reason (reason e)
      where
        by_reason : GradeReason sheet state g (verdict 0 0 (j + 1)) → Named
        by_reason (inl w) = absurd (w.refused (numberless w.is))
        by_reason (inr (inl w)) = absurd (no_own w.given (numberless w.is))
        by_reason (inr (inr (inr w))) = absurd (omega (arith, same_row w.is))
        by_reason (inr (inr (inl w))) =
            let here : w.j ≡ j = omega (arith, same_row w.is) in
            record {
              accepted = w.accepted;
              there = omega (arith, here, w.there);
              before = λ i less. w.before i (omega (arith, here, less));
              outside = λ a. w.outside (subst (Agrees sheet state g) (sym here) a);
            }

    before_close : (i : ℕ) → i < j → CloseAt sheet s g sound i
    before_close i less = close_at names.accepted i (omega (arith, less, names.there)) (names.before i less)

    named_far : FarAt sheet s g sound j
    named_far = far_at names.accepted j names.there names.outside

  pub at_grading : AtGrading sheet s g sound
  at_grading = record { run = at; accepted = all_close; before = before_close; named = named_far }
