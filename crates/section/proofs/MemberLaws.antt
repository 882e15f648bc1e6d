-- One member of a section (SPEC 15.2 to 15.5): what its ranges say, how great its force and moment can be, and what its lines answer.
use Prim.Native.Nat.{ℕ, ◌*◌, ◌/◌, ◌^◌, ◌≤◌}
use mathlib.Core.Path.{◌≡◌, refl, ◌∙◌}
use mathlib.Core.Bool.{true, false, not, ◌&&◌}
use mathlib.Core.List.{[], ◌∷◌}
use borrow.Author.Tests.{leb-true, not-false}
use native.Mathlib.Nat.{mul-le-mul}
use native.Mathlib.Omega.{arith}
use lib.Dec.{leb}
use lib.IntN.{ℤ, pos, nat_abs}
use Rattle.refusals.specs.Table.{passes, refused, refusal, first_of}
use Rattle.refusals.proofs.FirstLaws.{both_hold, stops_first, goes_on, both_pass, passes_line}
use Rattle.ranges.specs.Ranges.{around, grains, most_stress, most_area, most_offset, most_curvature}
use Rattle.ranges.proofs.RangeMagnitudes.{around_magnitude}
use Rattle.units.specs.Signs.{is_neg}
use Rattle.units.proofs.Magnitudes.{magnitude_signed, magnitude_product}
use Rattle.sheet.specs.declared.Sheet.{Sheet}
use Rattle.sheet.specs.Sound.{SheetSound}
use Rattle.pair.specs.declared.Pair.{Pair}
use Rattle.pair.specs.Pairs.{pair_in_range}
use Rattle.rod.specs.declared.Rod.{Rod}
use Rattle.rod.specs.declared.step.Advance.{Advance}
use Rattle.rod.specs.Steps.{advance_of, step_refusals}
use Rattle.rod.specs.Against.{belongs, against_refusals}
use Rattle.rod.specs.Accepted.{PairAccepted}
use Rattle.rod.proofs.RangeFacts.{ranged}
use Rattle.state.specs.States.{state_refusals, state_of}
use Rattle.state.specs.Passing.{StatePasses}
use Rattle.state.proofs.Passing.{next_state_passes}
use Rattle.carry.specs.Reaching.{reached_of}
use Rattle.judge.specs.Standing.{holder_refusals}
use Rattle.judge.proofs.JudgeLaws.{read_stands}
use Rattle.section.specs.declared.Member.{Member}
use Rattle.section.specs.declared.Change.{Change}
use Rattle.section.specs.Sections.{member_right, member_pair, member_table, member_answer, cut_stress, force_of, moment_of, most_force, most_moment}
use Rattle.section.specs.Tallies.{ChangeRight}

-- ---- Ranges

pub record MemberRanges (m : Member) : Type 0 where
  pub area_most : m.area ≤ most_area
  pub offset_most : nat_abs m.offset ≤ most_offset

pub member_ranges : (m : Member) → member_right m ≡ true → MemberRanges m
unfolding member_right
member_ranges m e =
    let both = both_hold (leb 1 m.area && leb m.area most_area) (around most_offset m.offset) e in
    record {
      area_most = leb-true m.area most_area (both_hold (leb 1 m.area) (leb m.area most_area) both.0).1;
      offset_most = around_magnitude most_offset m.offset both.1;
    }

-- Curvature times offset stays far below 64 bits.
pub bent_most : (c : Change) (m : Member) → ChangeRight c → member_right m ≡ true → nat_abs c.curvature.0 * nat_abs m.offset ≤ 1000000000
bent_most c m right e =
    mul-le-mul {n₁ = nat_abs c.curvature.0} {m₁ = nat_abs m.offset} {n₂ = most_curvature} {m₂ = most_offset} (around_magnitude most_curvature c.curvature.0 right.curvature) (member_ranges m e).offset_most

-- ---- Force and moment

pub cut_magnitude : (z : ℤ) → nat_abs (cut_stress z) ≡ nat_abs z / grains
cut_magnitude z = magnitude_signed (is_neg z) (nat_abs z / grains)

module _ (m : Member) (stress : ℤ) (right : member_right m ≡ true) (most : nat_abs stress ≤ most_stress) where
  pub cut_most : nat_abs (cut_stress stress) ≤ 10 ^ 8
  cut_most = rw (cut_magnitude stress) (omega (arith, most))

  pub force_most : nat_abs (cut_stress stress) * m.area ≤ most_force
  force_most = mul-le-mul {n₁ = nat_abs (cut_stress stress)} {m₁ = m.area} {n₂ = 10 ^ 8} {m₂ = most_area} cut_most (member_ranges m right).area_most

  pub force_magnitude : nat_abs (force_of m stress) ≡ nat_abs (cut_stress stress) * m.area
  force_magnitude = magnitude_product (cut_stress stress) (pos m.area)

  pub moment_most : nat_abs (force_of m stress) * nat_abs m.offset ≤ most_moment
  moment_most =
      mul-le-mul {n₁ = nat_abs (force_of m stress)} {m₁ = nat_abs m.offset} {n₂ = most_force} {m₂ = most_offset} (rw force_magnitude force_most) (member_ranges m right).offset_most

  pub moment_magnitude : nat_abs (moment_of m stress) ≡ nat_abs (force_of m stress) * nat_abs m.offset
  moment_magnitude = magnitude_product (force_of m stress) m.offset

-- ---- Answers

module _ (h : Sheet) (c : Change) (m : Member) where
  abbrev rod : Rod
  rod = state_of m.state

  abbrev pair : Pair
  pair = member_pair c m

  -- A refused state goes no further,
  pub state_stops : {A : Type 0} {n : ℕ} (v : A) → first_of (holder_refusals h m.state) v ≡ refused n → member_answer h c m ≡ refused n
  unfolding member_answer member_table
  state_stops {A} {n} v e = stops_first (holder_refusals h m.state) (refusal 8 (not (pair_in_range pair)) ∷ step_refusals h rod pair) v (advance_of h rod pair) n e

  -- behind one that passes a pair out of its ranges is 8,
  pub pair_stops : {A : Type 0} {x : A} (v : A) → first_of (holder_refusals h m.state) v ≡ passes x → pair_in_range pair ≡ false → member_answer h c m ≡ refused 8
  unfolding member_answer member_table first_of
  pair_stops v e out = goes_on (holder_refusals h m.state) (refusal 8 (not (pair_in_range pair)) ∷ step_refusals h rod pair) v (advance_of h rod pair) e ∙ rw out

  -- and for any other the step decides.
  pub step_decides : {A : Type 0} {x : A} (v : A) → first_of (holder_refusals h m.state) v ≡ passes x → pair_in_range pair ≡ true
      → member_answer h c m ≡ first_of (step_refusals h rod pair) (advance_of h rod pair)
  unfolding member_answer member_table first_of
  step_decides v e right = goes_on (holder_refusals h m.state) (refusal 8 (not (pair_in_range pair)) ∷ step_refusals h rod pair) v (advance_of h rod pair) e ∙ rw right

  -- What a member that passes has passed, and the state that it is left with.
  pub record MemberPassed (a : Advance) : Type 0 where
    pub state : first_of (holder_refusals h m.state) rod ≡ passes rod
    pub in_range : PairAccepted pair
    pub step : first_of (step_refusals h rod pair) (advance_of h rod pair) ≡ passes a
    pub next : StatePasses h a.rod

  pub member_passed : {a : Advance} → SheetSound h → member_answer h c m ≡ passes a → MemberPassed a
  unfolding member_answer member_table against_refusals
  member_passed {a} sound e =
      let both = both_pass (holder_refusals h m.state) (refusal 8 (not (pair_in_range pair)) ∷ step_refusals h rod pair) rod (advance_of h rod pair) e in
      let eight = passes_line 8 (not (pair_in_range pair)) (step_refusals h rod pair) (advance_of h rod pair) both.1 in
      let state = both_pass (state_refusals m.state) (against_refusals h rod) rod rod both.0 in
      let six = passes_line 6 (not (belongs h rod)) [] rod state.1 in
      let accepted = (read_stands h m.state {x = reached_of h rod} sound state.0 (not-false _ six.0) refl).accepted in
      let right = not-false _ eight.0 in
      record { state = both.0; in_range = right; step = eight.1; next = next_state_passes pair accepted right eight.1 }

  pub next_stress_most : {a : Advance} → SheetSound h → member_answer h c m ≡ passes a → nat_abs a.rod.stress.0 ≤ most_stress
  next_stress_most {a} sound e = (ranged a.rod (member_passed sound e).next.accepted.in_range).stress
