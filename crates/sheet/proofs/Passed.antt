-- A sheet that passes is sound.
use Prim.Native.Nat.{ℕ, zero, suc, ◌+◌, ◌-◌, ◌≤◌, ◌<◌}
use mathlib.Core.Path.{◌≡◌, sym, ap, subst, ◌∙◌}
use mathlib.Core.Bool.{Bool, true, false, ◌||◌, cond}
use mathlib.Core.List.{List, [], ◌∷◌, ◌++◌}
use borrow.Author.Tests.{leb-true, ltb-true, eqb-true, not-false, ne_eqb}
use native.Mathlib.Decide.{dec_lt}
use native.Mathlib.Nat.{zero-add}
use native.Mathlib.Omega.{arith}
use lib.Dec.{eqb, leb, ltb}
use lib.ListN.{length, get_or, replicate, length-append, length-replicate, get_or-replicate, get_or-append}
use lib.Seq.{get_or_at, get_or-append-add}
use Rattle.refusals.specs.Table.{passes, first_of}
use Rattle.refusals.proofs.FirstLaws.{passes_line, passes_none, both_hold, three_hold}
use Rattle.ranges.specs.Ranges.{temperature_right, most_modulus, most_expansion, most_length, most_yield}
use Rattle.law.specs.declared.Law.{Law}
use Rattle.law.specs.declared.Law.TheVariants.{Kinematic, Asymmetric}
use Rattle.curve.specs.declared.Segment.{Segment}
use Rattle.expansion.specs.declared.Point.{Point}
use Rattle.expansion.specs.Points.{most_points, no_point, no_place, point_right, temperatures_rise, count_of, places_of, PointsUsable, Usable}
use Rattle.curve.specs.Sides.{most_segments, flat, length_at, tangent_of}
use Rattle.bits.specs.Field.{within}
use Rattle.sheet.specs.declared.Sheet.{Sheet}
use Rattle.sheet.specs.Sheets.{law_in, tension_count, compression_count, point_count, modulus_in, expansion_in, reference_in, tension_yield, compression_yield, header_zero_bits, segment_length_in, segment_tangent_in, all_below, most_tension, compression_of, expansion_right, compression_yield_right, length_right, tangent_right, sheet_counts_right, constants_right, yields_right, header_right, lengths_right, tangents_right, both_sides, segment_in, point_in, listed, placed, points_in, points_by, coefficients_by, point_fields_right, points_right, sheet_field_refusals, sheet_refusals, side_in, sheet_of}
use Rattle.sheet.specs.Sound.{SideSound, SheetSound}
use Rattle.sheet.proofs.SheetLaws.{few_segments, within_bounds, length_listed, placed_first, some_by}

all_below_holds : (test : ℕ → Bool) (n i : ℕ) → all_below test n ≡ true → i < n → test i ≡ true
unfolding all_below
all_below_holds test zero i e h = absurd (omega arith)
all_below_holds test (suc n) i e h = by_place (both_hold (all_below test n) (test n) e) (λ a l. all_below_holds test n i a l) (dec_lt i n)
  where
    by_place : (all_below test n ≡ true) × (test n ≡ true) → (all_below test n ≡ true → i < n → test i ≡ true) → Dec (i < n) → test i ≡ true
    by_place both before (yes l) = before both.0 l
    by_place both before (no m) = let last : i ≡ n = omega arith in ap test last ∙ both.1

-- Things that are listed stand in their places.
listed_at : {A : Type 0} (at : ℕ → A) (empty : A) (first n i : ℕ) → i < n → get_or (listed at first n) i empty ≡ at (first + i)
unfolding listed
listed_at at empty first zero i h = absurd (omega arith)
listed_at at empty first (suc n) i h = by_place (λ l. listed_at at empty first n i l) (dec_lt i n)
  where
    by_place : (i < n → get_or (listed at first n) i empty ≡ at (first + i)) → Dec (i < n)
        → get_or (listed at first n ++ (at (first + n) ∷ [])) i empty ≡ at (first + i)
    by_place before (yes l) =
        get_or-append (listed at first n) (at (first + n) ∷ []) empty i (rw (length_listed at first n) l) ∙ before l
    by_place before (no m) =
        let last : i ≡ n = omega arith in
        rw last (get_or_at (listed at first n) (at (first + n)) [] empty n (length_listed at first n))

placed_at : {A : Type 0} (most : ℕ) (empty nowhere : A) (at : ℕ → A) (first n i : ℕ) → i < n → get_or (placed most empty (listed at first n)) i nowhere ≡ at (first + i)
unfolding placed
placed_at most empty nowhere at first n i h =
    get_or-append (listed at first n) (replicate (most - length (listed at first n)) empty) nowhere i (rw (length_listed at first n) h)
    ∙ listed_at at nowhere first n i h

-- Behind them the places are empty.
placed_behind : {A : Type 0} (most : ℕ) (empty nowhere : A) (at : ℕ → A) (first n i : ℕ) → n ≤ i → i < most
    → get_or (placed most empty (listed at first n)) i nowhere ≡ empty
unfolding placed
placed_behind {A} most empty nowhere at first n i h place =
    let l = listed at first n in
    let e = replicate (most - length l) empty in
    let past : i ≡ length l + (i - n) = omega (arith, length_listed at first n) in
    ap (λ (k : ℕ). get_or (l ++ e) k nowhere) past
    ∙ get_or-append-add l e (i - n) nowhere
    ∙ get_or-replicate (most - length l) (i - n) empty nowhere (omega (arith, length_listed at first n))

-- So many places are there.
placed_all : {A : Type 0} (most : ℕ) (empty : A) (at : ℕ → A) (first n : ℕ) → n ≤ most → length (placed most empty (listed at first n)) ≡ most
unfolding placed
placed_all most empty at first n h =
    rw (length-append (listed at first n) (replicate (most - length (listed at first n)) empty), length-replicate (most - length (listed at first n)) empty, length_listed at first n) (omega arith)

pub tangent_is : (s : List ℕ) (yield first n i : ℕ) → i < n → tangent_of (side_in s yield first n) i ≡ segment_tangent_in s (first + i)
tangent_is s yield first n i h = ap (λ (g : Segment). g.tangent.0) (placed_at most_segments flat flat (segment_in s) first n i h)

length_is : (s : List ℕ) (yield first n i : ℕ) → i < n → length_at (side_in s yield first n) i ≡ segment_length_in s (first + i)
length_is s yield first n i h = ap (λ (g : Segment). g.length.0) (placed_at most_segments flat flat (segment_in s) first n i h)

-- A length that is right is at most the greatest.
length_most : (s : List ℕ) (first n i : ℕ) → length_right s first n i ≡ true → segment_length_in s (first + i) ≤ most_length
length_most s first n i = by_place (eqb (i + 1) n)
  where
    x : ℕ
    x = segment_length_in s (first + i)

    by_place : (t : Bool) → cond t (eqb x 0) (within 1 most_length x) ≡ true → x ≤ most_length
    by_place true e = let none = eqb-true x 0 e in omega arith
    by_place false e = (within_bounds 1 most_length x e).1

-- A tangent that keeps its rule.
tangent_kept : (s : List ℕ) (first i : ℕ) → tangent_right s first i ≡ true
    → (segment_tangent_in s (first + i) < modulus_in s) × (0 < i → segment_tangent_in s (first + i) ≤ segment_tangent_in s (first + i - 1))
tangent_kept s first i e =
    let both = both_hold (ltb (segment_tangent_in s (first + i)) (modulus_in s)) (eqb i 0 || leb (segment_tangent_in s (first + i)) (segment_tangent_in s (first + i - 1))) e in
    (ltb-true (segment_tangent_in s (first + i)) (modulus_in s) both.0, λ h. leb-true (segment_tangent_in s (first + i)) (segment_tangent_in s (first + i - 1)) (rw (ne_eqb i 0 (λ z. omega arith)) at both.1))

-- A side whose yield, lengths and tangents are right.
side_sound : (s : List ℕ) (yield first n : ℕ) → 1 ≤ n → n ≤ 7 → within 1 most_yield yield ≡ true → lengths_right s first n ≡ true
    → tangents_right s first n ≡ true → SideSound (modulus_in s) (side_in s yield first n)
unfolding lengths_right tangents_right
side_sound s yield first n some few y lengths tangents =
    let bounds = within_bounds 1 most_yield yield y in
    let kept : (i : ℕ) → i < n → (segment_tangent_in s (first + i) < modulus_in s) × (0 < i → segment_tangent_in s (first + i) ≤ segment_tangent_in s (first + i - 1)) =
    λ i h. tangent_kept s first i (all_below_holds (tangent_right s first) n i tangents h) in
    record {
      count_least = some;
      count_most = few;
      places = placed_all most_segments flat (segment_in s) first n few;
      yield_least = omega (arith, bounds.0);
      yield_most = omega (arith, bounds.1);
      tangents_below = λ i h. omega (arith, tangent_is s yield first n i h, (kept i h).0);
      tangents_fall = λ i h.
          let one-back : first + (i + 1) - 1 ≡ first + i = omega arith in
          let falls : segment_tangent_in s (first + (i + 1)) ≤ segment_tangent_in s (first + (i + 1) - 1) = (kept (i + 1) h).1 (omega arith) in
          omega (arith, tangent_is s yield first n (i + 1) h, tangent_is s yield first n i (omega arith), falls, ap (segment_tangent_in s) one-back);
      lengths_most = λ i h. omega (arith, length_is s yield first n i h, length_most s first n i (all_below_holds (length_right s first n) n i lengths h));
    }

-- The single expansion is at most the greatest, beside points and without.
single_most : (points a : ℕ) → expansion_right points a ≡ true → a ≤ most_expansion
single_most points a = by_count (eqb points 0)
  where
    by_count : (t : Bool) → cond t (within 0 most_expansion a) (eqb a 0) ≡ true → a ≤ most_expansion
    by_count true e = (within_bounds 0 most_expansion a e).1
    by_count false e = let none = eqb-true a 0 e in omega arith

-- The points of a sheet whose count and points are right,
points_usable : (s : List ℕ) → 0 < point_count s → within 0 most_points (point_count s) ≡ true → points_right s ≡ true → temperatures_rise (points_in s) ≡ true
    → PointsUsable (points_by (point_count s) (points_in s))
unfolding points_right
points_usable s some few points rise =
    let n = point_count s in
    record {
      some = some;
      count_fits = (within_bounds 0 most_points n few).1;
      places = placed_all most_points no_point (point_in s) 0 n (within_bounds 0 most_points n few).1;
      points_right = λ i h.
          let fields = all_below_holds (point_fields_right s) n i points h in
          ap point_right (rw (zero-add i) at (placed_at most_points no_point no_place (point_in s) 0 n i h)) ∙ (both_hold (point_right (point_in s i)) _ fields).0;
      empty_behind = placed_behind most_points no_point no_place (point_in s) 0 n;
      rising = ap temperatures_rise (placed_first most_points no_point (point_in s) 0 n) ∙ rise;
    }

-- and with them its coefficients, whose single number is in its range.
coefficients_usable : (n single : ℕ) (points : List Point) → single ≤ most_expansion
    → (0 < n → PointsUsable (points_by n points)) → Usable (coefficients_by n single points)
coefficients_usable zero single points most usable = record { single_most = most; points = λ p e. absurd (cc) }
coefficients_usable (suc n) single points most usable =
    record { single_most = omega arith; points = λ p e. subst PointsUsable (sym (some_by (suc n) single points p e)) (usable (omega arith)) }

-- There are no more points than places.
pub held_few : (n single : ℕ) (at : ℕ → Point) → n ≤ most_points → count_of (coefficients_by n single (listed at 0 n)) ≤ most_points
held_few zero single at few = omega arith
held_few (suc n) single at few = few

-- Its points have their places.
pub held_in_places : (n single : ℕ) (at : ℕ → Point) → n ≤ most_points
    → count_of (coefficients_by n single (listed at 0 n)) ≤ length (places_of (coefficients_by n single (listed at 0 n)))
held_in_places zero single at few = omega arith
held_in_places (suc n) single at few = omega (arith, few, placed_all most_points no_point at 0 (suc n) few)

one_of_kinematic : (law : Law) (n : ℕ) → within 1 (most_tension law) n ≡ true → law ≡ Kinematic → n ≡ 1
one_of_kinematic law n e k =
    let bounds = within_bounds 1 (most_tension law) n e in
    omega (arith, bounds.0, bounds.1, ap most_tension k)

-- Law 3 has a compression side, with its yield.
compression_there : (law : Law) (n y : ℕ) → eqb n (compression_of law) ≡ true → compression_yield_right law y ≡ true → law ≡ Asymmetric
    → (1 ≤ n) × (within 1 most_yield y ≡ true)
compression_there law n y c e a =
    (omega (arith, eqb-true n (compression_of law) c, ap compression_of a), rw a at e)

-- The values of a sheet with every part right.
values_sound : (s : List ℕ) → sheet_counts_right s ≡ true → constants_right s (point_count s) ≡ true → yields_right s (law_in s) ≡ true
    → lengths_right s 0 (tension_count s) ≡ true → lengths_right s (tension_count s) (compression_count s) ≡ true → points_right s ≡ true
    → tangents_right s 0 (tension_count s) ≡ true → tangents_right s (tension_count s) (compression_count s) ≡ true → temperatures_rise (points_in s) ≡ true
    → SheetSound (sheet_of s)
unfolding sheet_counts_right constants_right yields_right sheet_of
values_sound s counts constants yields lengths_t lengths_c points tangents_t tangents_c rise =
    let counted = three_hold (within 1 (most_tension (law_in s)) (tension_count s)) (eqb (compression_count s) (compression_of (law_in s))) (within 0 most_points (point_count s)) counts in
    let constant = three_hold (within 1 most_modulus (modulus_in s)) (expansion_right (point_count s) (expansion_in s)) (temperature_right (reference_in s)) constants in
    let yield = three_hold (eqb (header_zero_bits s) 0) (within 1 most_yield (tension_yield s)) (compression_yield_right (law_in s) (compression_yield s)) yields in
    let modulus = within_bounds 1 most_modulus (modulus_in s) constant.0 in
    let some = within_bounds 1 (most_tension (law_in s)) (tension_count s) counted.0 in
    record {
      modulus_least = modulus.0;
      modulus_most = modulus.1;
      expansion = coefficients_usable (point_count s) (expansion_in s) (points_in s) (single_most (point_count s) (expansion_in s) constant.1)
          (λ some. points_usable s some counted.2 points rise);
      reference_right = constant.2;
      tension = side_sound s (tension_yield s) 0 (tension_count s) some.0 (few_segments s).0 yield.1 lengths_t tangents_t;
      compression = λ a.
          let there = compression_there (law_in s) (compression_count s) (compression_yield s) counted.1 yield.2 a in
          side_sound s (compression_yield s) (tension_count s) (compression_count s) there.0 (few_segments s).1 there.1 lengths_c tangents_c;
      one_segment = one_of_kinematic (law_in s) (tension_count s) counted.0;
    }

-- A sheet that passes is the one that its bytes hold, and is sound.
pub passed_sound : (s : List ℕ) {h : Sheet} → first_of (sheet_refusals s) (sheet_of s) ≡ passes h → (h ≡ sheet_of s) × SheetSound h
unfolding sheet_refusals sheet_field_refusals header_right
passed_sound s {h} e =
    let one = passes_line 1 _ _ _ e in
    let two = passes_line 2 _ _ _ one.1 in
    let three = passes_line 3 _ _ _ two.1 in
    let thirteen = passes_line 13 _ _ _ three.1 in
    let same = passes_none (sheet_of s) thirteen.1 in
    let fields = three_hold (header_right s) (both_sides s (lengths_right s)) (points_right s) (not-false _ two.0) in
    let header = three_hold (sheet_counts_right s) (constants_right s (point_count s)) (yields_right s (law_in s)) fields.0 in
    let lengths = both_hold (lengths_right s 0 (tension_count s)) _ fields.1 in
    let tangents = both_hold (tangents_right s 0 (tension_count s)) _ (not-false _ three.0) in
    (same, subst SheetSound (sym same) (values_sound s header.0 header.1 header.2 lengths.0 lengths.1 fields.2 tangents.0 tangents.1 (not-false _ thirteen.0)))
