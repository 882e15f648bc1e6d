-- What a sheet's bytes say of expansion (SPEC 5.7, 5.8): with points, and without.
use Prim.Native.Nat.{ℕ, zero, suc, ◌+◌, ◌*◌}
use mathlib.Core.Path.{◌≡◌, refl, sym, ap, subst, ◌∙◌}
use mathlib.Core.Bool.{true}
use mathlib.Core.List.{List}
use native.Mathlib.Omega.{arith}
use lib.IntN.{ℤ}
use Rattle.refusals.specs.Table.{passes, first_of}
use Rattle.ranges.specs.Ranges.{most_expansion}
use Rattle.bits.specs.Field.{within}
use Rattle.expansion.specs.declared.Point.{Point}
use Rattle.expansion.specs.Points.{most_points, no_point, points_of, temperatures_rise}
use Rattle.expansion.specs.Coefficient.{coefficient_in, coefficient_of, Interpolates}
use Rattle.expansion.proofs.Interpolation.{interpolates, beside_points, usable_rises}
use Rattle.sheet.specs.declared.Sheet.{Sheet}
use Rattle.sheet.specs.SheetLayout.{header_length, segment_length}
use Rattle.sheet.specs.Sheets.{expansion_in, point_count, segment_count, counted_length, all_below, expansion_right, listed, point_in, points_in, coefficients_by, points_right, sheet_refusals, sheet_of}
use Rattle.sheet.proofs.SheetLaws.{length_listed, placed_first, points_held}
use Rattle.sheet.proofs.Passed.{passed_sound}

-- The coefficient goes by the single number where there is no point, and by the points alone where there are some.
coefficient_by : (n single : ℕ) (at : ℕ → Point) (t : ℤ) → coefficient_of (coefficients_by n single (listed at 0 n)) t ≡ coefficient_in single (listed at 0 n) t
unfolding coefficient_in listed
coefficient_by zero single at t = refl
coefficient_by (suc n) single at t =
    let l = listed at 0 (suc n) in
    ap (λ (l : List Point). coefficient_in 0 l t) (placed_first most_points no_point at 0 (suc n))
    ∙ beside_points 0 single l t (rw (length_listed at 0 (suc n)) (omega arith))

-- The coefficient of a sheet that passes is the one that document 02 says, of the single number and the points as they stand in its bytes.
pub sheet_interpolates : (s : List ℕ) {h : Sheet} (t : ℤ) → first_of (sheet_refusals s) (sheet_of s) ≡ passes h
    → Interpolates (expansion_in s) (points_in s) t (coefficient_of h.expansion t)
unfolding sheet_of
sheet_interpolates s {h} t e =
    let passed = passed_sound s e in
    let held : points_of h.expansion ≡ points_in s = ap (λ (g : Sheet). points_of g.expansion) passed.0 ∙ points_held s in
    let same : coefficient_in (expansion_in s) (points_in s) t ≡ coefficient_of h.expansion t =
    sym (ap (λ (g : Sheet). coefficient_of g.expansion t) passed.0 ∙ coefficient_by (point_count s) (expansion_in s) (point_in s) t) in
    subst (Interpolates (expansion_in s) (points_in s) t) same
    (interpolates (expansion_in s) (points_in s) (ap temperatures_rise (sym held) ∙ usable_rises h.expansion passed.1.expansion) t)

-- A sheet without points has the conditions of before: its length goes by the segments, the single number has its range, no point can be
-- wrong, and 13 can't apply.
pub record AsBefore (s : List ℕ) : Type 0 where
  pub long : counted_length s ≡ header_length + segment_length * segment_count s
  pub single : (a : ℕ) → expansion_right (point_count s) a ≡ within 0 most_expansion a
  pub points : points_right s ≡ true
  pub rise : temperatures_rise (points_in s) ≡ true

pub without_points : (s : List ℕ) → point_count s ≡ 0 → AsBefore s
unfolding points_right all_below listed temperatures_rise
without_points s none =
    record {
      long = omega (arith, none);
      single = λ a. rw none;
      points = rw none;
      rise = rw none;
    }
