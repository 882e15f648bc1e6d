-- Laws of the sheet's conditions, of what its reader lists, and of what its parts answer.
use Prim.Native.Nat.{ℕ, zero, suc, ◌+◌, ◌-◌, ◌≤◌, ◌<◌}
use mathlib.Core.Path.{◌≡◌, refl, sym, ap, ◌∙◌}
use mathlib.Core.Bool.{Bool, true, false, ◌&&◌, and-false}
use mathlib.Core.List.{List, [], ◌∷◌, ◌++◌}
use native.Mathlib.Decide.{dec_lt}
use native.Mathlib.Omega.{arith}
use native.Mathlib.Nat.{zero-add}
use native.Mathlib.Numerals.{add-one}
use lib.ListN.{length, take, drop, replicate, length-append}
use borrow.Author.Tests.{leb-true}
use lib.Dec.{eqb, leb}
use lib.Seq.{take_at}
use Rattle.std.proofs.lemmas.List.{drop-replicate}
use Rattle.std.specs.Prelude.{Option, Result, Ok, Err}
use Rattle.std.specs.Result.{IsErrAnd}
use Rattle.std.proofs.lemmas.Result.{err_from_is_err_and}
use Rattle.refusals.specs.declared.Reason.{Reason}
use Rattle.refusals.specs.declared.Reason.TheVariants.{SheetField}
use Rattle.refusals.proofs.FirstLaws.{both_hold, three_hold}
use Rattle.expansion.specs.declared.Point.{Point}
use Rattle.expansion.specs.declared.Points.{Points}
use Rattle.expansion.specs.declared.Coefficients.TheVariants.{Single, AtPoints}
use Rattle.units.specs.declared.Expansion.{Expansion}
use Rattle.expansion.specs.Points.{most_points, no_point, points_of}
use Rattle.bits.specs.Field.{some_if, within}
use Rattle.bits.proofs.FieldLaws.{field_at_below}
use Rattle.sheet.specs.SheetLayout.{header_layout, most_points_counted}
use Rattle.sheet.specs.Sheets.{law_in, tension_count, compression_count, point_count, sheet_counts_right, constants_right, yields_right, header_right, most_tension, compression_of, all_below, listed, placed, expansion_in, point_in, points_in, points_by, coefficients_by, coefficients_in}
use Rattle.sheet.specs.ReaderAnswers.{right_or_field, read_into}

-- The counts of segments are of three bits,
pub few_segments : (s : List ℕ) → (tension_count s ≤ 7) × (compression_count s ≤ 7)
few_segments s = (omega (arith, field_at_below header_layout s 1), omega (arith, field_at_below header_layout s 2))

-- and that of the points is of four.
pub few_points : (s : List ℕ) → point_count s ≤ most_points_counted
few_points s = omega (arith, field_at_below header_layout s 9)

-- The two bounds that a test within them shows.
pub within_bounds : (least most x : ℕ) → within least most x ≡ true → (least ≤ x) × (x ≤ most)
within_bounds least most x e =
    let both = both_hold (leb least x) (leb x most) e in
    (leb-true least x both.0, leb-true x most both.1)

-- A header that is right has no more points than there are places.
pub points_fit : (s : List ℕ) → header_right s ≡ true → point_count s ≤ most_points
unfolding header_right sheet_counts_right
points_fit s right =
    let counts = (three_hold (sheet_counts_right s) (constants_right s (point_count s)) (yields_right s (law_in s)) right).0 in
    let points = (three_hold (within 1 (most_tension (law_in s)) (tension_count s)) (eqb (compression_count s) (compression_of (law_in s))) (within 0 most_points (point_count s)) counts).2 in
    (within_bounds 0 most_points (point_count s) points).1

-- What a reader answers under its bounds, where these are the rule.
pub read_under : {A : Type 0} {answer : Option A} {bounds right : Bool} (x : A) → bounds ≡ right → answer ≡ some_if bounds x → some_if right x ≡ answer
read_under x same e = ap (λ (t : Bool). some_if t x) (sym same) ∙ sym e

-- A test that holds below i and at i holds below i + 1,
pub all_below_more : (test : ℕ → Bool) (i : ℕ) → all_below test i ≡ true → test i ≡ true → all_below test (i + 1) ≡ true
unfolding all_below
all_below_more test i h t = rw (add-one i, h) t

-- and one that fails somewhere doesn't hold for all.
stops_at_last : (test : ℕ → Bool) (i n : ℕ) → i < suc n → test i ≡ false → (i < n → all_below test n ≡ false) → Dec (i < n) → all_below test n && test n ≡ false
stops_at_last test i n h t before (yes l) = rw (before l)
stops_at_last test i n h t before (no m) =
    let last : i ≡ n = omega arith in
    rw (← last, t) (and-false (all_below test i))

pub all_below_stops : (test : ℕ → Bool) (i n : ℕ) → i < n → test i ≡ false → all_below test n ≡ false
unfolding all_below
all_below_stops test i zero h t = absurd (omega arith)
all_below_stops test i (suc n) h t = stops_at_last test i n h t (λ l. all_below_stops test i n l t) (dec_lt i n)

-- So many things are listed as were asked for,
pub length_listed : {A : Type 0} (at : ℕ → A) (first n : ℕ) → length (listed at first n) ≡ n
unfolding listed
length_listed at first zero = refl
length_listed at first (suc n) = length-append (listed at first n) (at (first + n) ∷ []) ∙ rw (length_listed at first n) (omega arith)

-- one more behind the others,
pub listed_more : {A : Type 0} (at : ℕ → A) (i : ℕ) → listed at 0 (i + 1) ≡ listed at 0 i ++ (at i ∷ [])
unfolding listed
listed_more at i = rw (add-one i, zero-add i) refl

-- and they stand in front of the places that were empty.
pub placed_in : {A : Type 0} (most : ℕ) (empty : A) (at : ℕ → A) (first n : ℕ) {places : List A} → places ≡ replicate most empty
    → listed at first n ++ drop n places ≡ placed most empty (listed at first n)
unfolding placed
placed_in most empty at first n none =
    rw (none, length_listed at first n) (ap (λ (behind : List _). listed at first n ++ behind) (drop-replicate n most empty))

-- Things from number `first` on are listed as those from 0 on that stand so much further.
pub listed_from : {A : Type 0} (at : ℕ → A) (first n : ℕ) → listed (λ i. at (first + i)) 0 n ≡ listed at first n
unfolding listed
listed_from at first zero = refl
listed_from at first (suc n) = rw (listed_from at first n, zero-add n)

-- The first places hold what was listed.
pub placed_first : {A : Type 0} (most : ℕ) (empty : A) (at : ℕ → A) (first n : ℕ) → take n (placed most empty (listed at first n)) ≡ listed at first n
unfolding placed
placed_first most empty at first n = take_at (listed at first n) (replicate (most - length (listed at first n)) empty) n (length_listed at first n)

-- What a sheet says of expansion goes by its count: where there is a point it is the points,
pub by_some : (n single : ℕ) (points : List Point) → 0 < n → coefficients_by n single points ≡ AtPoints (points_by n points)
by_some zero single points some = absurd (omega arith)
by_some (suc n) single points some = refl

same_points : {p q : Points} → AtPoints p ≡ AtPoints q → p ≡ q
same_points e = cc

-- and the other way round.
pub some_by : (n single : ℕ) (points : List Point) (p : Points) → coefficients_by n single points ≡ AtPoints p → p ≡ points_by n points
some_by zero single points p e = absurd (cc)
some_by (suc n) single points p e = sym (same_points e)

pub none_by : (n single : ℕ) (points : List Point) (a : Expansion) → coefficients_by n single points ≡ Single a → n ≡ 0
none_by zero single points a e = refl
none_by (suc n) single points a e = absurd (cc)

-- What a sheet says of expansion has the points that were listed,
by_points : (n single : ℕ) (at : ℕ → Point) → points_of (coefficients_by n single (listed at 0 n)) ≡ listed at 0 n
unfolding listed
by_points zero single at = refl
by_points (suc n) single at = placed_first most_points no_point at 0 (suc n)

pub points_held : (s : List ℕ) → points_of (coefficients_in s) ≡ points_in s
points_held s = by_points (point_count s) (expansion_in s) (point_in s)

-- What a part of the reader answered tells whether it was right, and what was read.
pub read_tells : {A : Type 0} (right : Bool) (read : A) {x : A} → Ok x ≡ right_or_field right read → (right ≡ true) × (x ≡ read)
read_tells true read e = (refl, cc)
read_tells false read e = absurd (cc)

pub refusal_tells : {A : Type 0} (right : Bool) (read : A) {r : Reason} → Err r ≡ right_or_field right read → (right ≡ false) × (r ≡ SheetField)
refusal_tells true read e = absurd (cc)
refusal_tells false read e = (refl, cc)

-- Where a `?` hands a part's refusal on, that part wasn't right.
pub refusal_handed_on : {A B : Type 0} (right : Bool) (read : A) {r : Reason} (answer : Result B Reason) → Err r ≡ right_or_field right read
    → IsErrAnd answer (λ y. y ≡ r) → (right ≡ false) × (answer ≡ Err SheetField)
refusal_handed_on right read answer e handed =
    let told = refusal_tells right read e in
    let on = err_from_is_err_and answer handed in
    (told.0, on.1 ∙ ap Err (on.2 ∙ told.1))

-- and what was lent is refused with it.
pub lent_refused : {A B D : Type 0} (right : Bool) (read : A) {r : Reason} (left : B) (answer : Result D Reason) → Err r ≡ right_or_field right read
    → IsErrAnd answer (λ y. y ≡ r) → (right ≡ false) × (read_into left answer ≡ Err SheetField)
lent_refused right read left answer e handed =
    let on = refusal_handed_on right read answer e handed in
    (on.0, ap (read_into left) on.1)

-- What a lent part was read into tells of the whole.
pub part_read : {A B D : Type 0} (whole : A → B) (right : Bool) (read left : A) (answer : Result D Reason) → read_into left answer ≡ right_or_field right read
    → read_into (whole left) answer ≡ right_or_field right (whole read)
part_read whole true read left (Ok done) e = ap (λ (x : _). Ok (whole x)) (read_tells true read e).1
part_read whole true read left (Err r) e = absurd (cc)
part_read whole false read left (Ok done) e = absurd (cc)
part_read whole false read left (Err r) e = ap Err (refusal_tells false read e).1
