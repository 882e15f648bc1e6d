-- What an answer says of the table that it comes from (SPEC 8.1).
use Prim.Native.Nat.{ℕ, ◌<◌}
use mathlib.Core.Path.{◌≡◌, refl, sym, ap, ◌∙◌}
use mathlib.Core.Bool.{Bool, true, false, not, ◌&&◌, ◌||◌, false≢true, true≢false, cond}
use mathlib.Core.List.{List, [], ◌∷◌, ◌++◌, append-nil}
use mathlib.Core.Logic.{inl, inr}
use native.Mathlib.Omega.{arith}
use borrow.Author.Tests.{eq-eqb, ltb-true}
use lib.Dec.{eqb, ltb}
use Rattle.refusals.specs.Table.{Refusal, refusal, numbers_of, withdrawn, Answer, passes, refused, first_of, NoneApplies, Given, Decided, Follows}

pub refused_is_not_passes : {A : Type 0} (n : ℕ) (x : A) → refused n ≡ passes x → ⊥
refused_is_not_passes n x e = let z : ◌≡◌ {A = ℕ} 0 1 = cc in omega arith

pub same_refused : {A : Type 0} (m n : ℕ) → ◌≡◌ {A = Answer A} (refused m) (refused n) → m ≡ n
same_refused m n e = cc

pub same_passes : {A : Type 0} (x y : A) → passes x ≡ passes y → x ≡ y
same_passes x y e = cc

-- Where a value passes, no line of the table applies, and the value is the one given.
pub passes_line : {A : Type 0} (n : ℕ) (t : Bool) (rest : List Refusal) (v : A) {x : A} → first_of (refusal n t ∷ rest) v ≡ passes x
    → (t ≡ false) × (first_of rest v ≡ passes x)
unfolding first_of
passes_line n true rest v {x} e = absurd (refused_is_not_passes n x e)
passes_line n false rest v e = (refl, e)

pub passes_none : {A : Type 0} (v : A) {x : A} → first_of [] v ≡ passes x → x ≡ v
unfolding first_of
passes_none v {x} e = same_passes x v (sym e)

-- What passes is the value given.
pub passes_given : {A : Type 0} (table : List Refusal) (v : A) {x : A} → first_of table v ≡ passes x → v ≡ x
passes_given [] v e = sym (passes_none v e)
passes_given (r ∷ rest) v e = passes_given rest v (passes_line r.number r.applies rest v e).1

-- A number that a table gives stands in it.
abbrev pub AllNumbers : (ℕ → Type 0) → List Refusal → Type 0
AllNumbers P [] = Unit {0}
AllNumbers P (r ∷ rest) = P r.number × AllNumbers P rest

pub numbers_join : (P : ℕ → Type 0) (first second : List Refusal) → AllNumbers P first → AllNumbers P second → AllNumbers P (first ++ second)
numbers_join P [] second all more = more
numbers_join P (r ∷ first) second (this, all) more = (this, numbers_join P first second all more)

-- SPEC 8.7, 9.10: what holds of the number of every answer, 0 among them: it fits a byte, and isn't the one that was taken out.
abbrev pub InUse : ℕ → Type 0
InUse n = (n < 256) × (n ≡ withdrawn → ⊥)

pub zero_in_use : InUse 0
zero_in_use = (omega arith, λ z. omega (arith, z))

-- What holds of every number in the tables: besides none is 0.
abbrev pub Numbered : ℕ → Type 0
Numbered n = (n ≡ 0 → ⊥) × InUse n

pub number_stands : {A : Type 0} (P : ℕ → Type 0) (table : List Refusal) (v : A) {n : ℕ} → AllNumbers P table → first_of table v ≡ refused n → P n
unfolding first_of
number_stands P [] v {n} all e = absurd (refused_is_not_passes n v (sym e))
number_stands P (r ∷ rest) v {n} (right, all) e = by_line r.applies e (number_stands P rest v all)
  where
    by_line : (t : Bool) → cond t (refused r.number) (first_of rest v) ≡ refused n → (first_of rest v ≡ refused n → P n) → P n
    by_line true e onward = let same : r.number ≡ n = same_refused r.number n e in rw same at right
    by_line false e onward = onward e

-- Both of two tests hold where their conjunction does.
pub both_hold : (a b : Bool) → a && b ≡ true → (a ≡ true) × (b ≡ true)
both_hold true b e = (refl, e)
both_hold false b e = absurd (false≢true e)

pub three_hold : (a b c : Bool) → a && b && c ≡ true → (a ≡ true) × (b ≡ true) × (c ≡ true)
three_hold a b c e =
    let outer = both_hold (a && b) c e in
    let inner = both_hold a b outer.0 in
    (inner.0, inner.1, outer.1)

-- That the numbers of a table are such is computed from them alone, whatever its conditions.
abbrev pub all_numbered : List ℕ → Bool
all_numbered [] = true
all_numbered (n ∷ rest) = not (eqb n 0) && ltb n 256 && not (eqb n withdrawn) && all_numbered rest

pub table_numbers : (table : List Refusal) → all_numbered (numbers_of table) ≡ true → AllNumbers Numbered table
table_numbers [] e = tt
table_numbers (r ∷ rest) e =
    let outer = both_hold (not (eqb n 0) && ltb n 256 && not (eqb n withdrawn)) (all_numbered (numbers_of rest)) e in
    let (some, byte, used) = three_hold (not (eqb n 0)) (ltb n 256) (not (eqb n withdrawn)) outer.0 in
    (((λ z. not_equal some z), (ltb-true n 256 byte, λ z. not_equal used z)), table_numbers rest outer.1)
  where
    n : ℕ
    n = r.number

    not_equal : {m : ℕ} → not (eqb n m) ≡ true → n ≡ m → ⊥
    not_equal {m} e same = true≢false (sym e ∙ ap not (eq-eqb n m same))

-- So is the number that it gives.
pub number_given : {A : Type 0} (table : List Refusal) (v : A) {n : ℕ} → all_numbered (numbers_of table) ≡ true → first_of table v ≡ refused n → Numbered n
number_given table v all e = number_stands Numbered table v (table_numbers table all) e

-- Neither of two tests holds where their disjunction doesn't.
pub neither_holds : (a b : Bool) → a || b ≡ false → (a ≡ false) × (b ≡ false)
neither_holds true b e = absurd (false≢true (sym e))
neither_holds false b e = (refl, e)

-- Of two tables one behind the other the first decides, unless all passes there: then the second does. The values play no part in it.
pub stops_first : {A B : Type 0} (first second : List Refusal) (v : A) (w : B) (n : ℕ) → first_of first v ≡ refused n → first_of (first ++ second) w ≡ refused n
unfolding first_of
stops_first [] second v w n e = absurd (refused_is_not_passes n v (sym e))
stops_first (r ∷ rest) second v w n e = by_line r.applies e (stops_first rest second v w n)
  where
    by_line : (t : Bool) → cond t (refused r.number) (first_of rest v) ≡ refused n
        → (first_of rest v ≡ refused n → first_of (rest ++ second) w ≡ refused n) → cond t (refused r.number) (first_of (rest ++ second) w) ≡ refused n
    by_line true e onward = ap refused (same_refused r.number n e)
    by_line false e onward = onward e

pub goes_on : {A B : Type 0} (first second : List Refusal) (v : A) (w : B) {x : A} → first_of first v ≡ passes x → first_of (first ++ second) w ≡ first_of second w
unfolding first_of
goes_on [] second v w e = refl
goes_on (r ∷ rest) second v w {x} e = by_line r.applies e (goes_on rest second v w)
  where
    by_line : (t : Bool) → cond t (refused r.number) (first_of rest v) ≡ passes x
        → (first_of rest v ≡ passes x → first_of (rest ++ second) w ≡ first_of second w) → cond t (refused r.number) (first_of (rest ++ second) w) ≡ first_of second w
    by_line true e onward = absurd (refused_is_not_passes r.number x e)
    by_line false e onward = onward e

-- Where two tables pass, each does.
pub both_pass : {A B : Type 0} (first second : List Refusal) (v : A) (w : B) {x : B} → first_of (first ++ second) w ≡ passes x
    → (first_of first v ≡ passes v) × (first_of second w ≡ passes x)
unfolding first_of
both_pass [] second v w e = (refl, e)
both_pass (r ∷ rest) second v w {x} e = by_line r.applies e (both_pass rest second v w)
  where
    by_line : (t : Bool) → cond t (refused r.number) (first_of (rest ++ second) w) ≡ passes x
        → (first_of (rest ++ second) w ≡ passes x → (first_of rest v ≡ passes v) × (first_of second w ≡ passes x))
        → (cond t (refused r.number) (first_of rest v) ≡ passes v) × (first_of second w ≡ passes x)
    by_line true e onward = absurd (refused_is_not_passes r.number x e)
    by_line false e onward = onward e

-- Whether a table refuses doesn't depend on the value.
pub refused_anyhow : {A B : Type 0} (table : List Refusal) (v : A) (w : B) (n : ℕ) → first_of table v ≡ refused n → first_of table w ≡ refused n
refused_anyhow table v w n e = ap (λ (t : List Refusal). first_of t w) (sym (append-nil table)) ∙ stops_first table [] v w n e

pub passes_anyhow : {A B : Type 0} (table : List Refusal) (v : A) (w : B) {x : A} → first_of table v ≡ passes x → first_of table w ≡ passes w
unfolding first_of
passes_anyhow table v w e = ap (λ (t : List Refusal). first_of t w) (sym (append-nil table)) ∙ goes_on table [] v w e

-- ---- Answer and table say the same

pub none_passes : {A : Type 0} (table : List Refusal) (v : A) → NoneApplies table → first_of table v ≡ passes v
unfolding first_of
none_passes [] v none = refl
none_passes (r ∷ rest) v (not-this, none) = rw not-this (none_passes rest v none)

pub passes_none_applies : {A : Type 0} (table : List Refusal) (v : A) {x : A} → first_of table v ≡ passes x → NoneApplies table
passes_none_applies [] v e = tt
passes_none_applies (r ∷ rest) v e =
    let line = passes_line r.number r.applies rest v e in
    (line.0, passes_none_applies rest v line.1)

pub given_refused : {A : Type 0} (table : List Refusal) (v : A) {n : ℕ} → Given table n → first_of table v ≡ refused n
unfolding first_of
given_refused table v {n} g =
    let line : first_of (g.line ∷ g.after) v ≡ refused n = rw (g.applies, g.numbered) in
    ap (λ (t : List Refusal). first_of t v) g.in_order
    ∙ goes_on g.before (g.line ∷ g.after) v v (none_passes g.before v g.none_before) ∙ line

pub refused_given : {A : Type 0} (table : List Refusal) (v : A) {n : ℕ} → first_of table v ≡ refused n → Given table n
unfolding first_of
refused_given [] v {n} e = absurd (refused_is_not_passes n v (sym e))
refused_given (r ∷ rest) v {n} e = by_line r.applies refl e (refused_given rest v)
  where
    by_line : (t : Bool) → r.applies ≡ t → cond t (refused r.number) (first_of rest v) ≡ refused n → (first_of rest v ≡ refused n → Given rest n)
        → Given (r ∷ rest) n
    by_line true this e onward =
        record { before = []; line = r; after = rest; in_order = refl; none_before = tt; applies = this; numbered = same_refused r.number n e }
    by_line false not-this e onward =
        let g = onward e in
        record {
          before = r ∷ g.before;
          line = g.line;
          after = g.after;
          in_order = ap (λ (t : List Refusal). r ∷ t) g.in_order;
          none_before = (not-this, g.none_before);
          applies = g.applies;
          numbered = g.numbered;
        }

-- Of two tables no line applies where none of either does.
pub none_split : (first second : List Refusal) → NoneApplies (first ++ second) → NoneApplies first × NoneApplies second
none_split [] second none = (tt, none)
none_split (r ∷ first) second (this, none) = let (one, other) = none_split first second none in ((this, one), other)

pub none_join : (first second : List Refusal) → NoneApplies first → NoneApplies second → NoneApplies (first ++ second)
none_join [] second one other = other
none_join (r ∷ first) second (this, one) other = (this, none_join first second one other)

pub decides : (table : List Refusal) → Decided table
decides table = by_answer (first_of table tt) refl
  where
    by_answer : (x : Answer (Unit {0})) → first_of table tt ≡ x → Decided table
    by_answer (passes v) e = inr (passes_none_applies table tt e)
    by_answer (refused n) e = inl (n, refused_given table tt e)

-- SPEC 9.11: what `first_of` answers follows its table, both ways.
pub first_follows : {A : Type 0} (table : List Refusal) (v : A) → Follows table v (first_of table v)
first_follows table v =
    record {
      decided = decides table;
      refused_where = λ n. (refused_given table v, given_refused table v);
      passes_where = (passes_none_applies table v, none_passes table v);
    }
