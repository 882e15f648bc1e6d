-- The first row outside the tolerance (SPEC 17.4), told from the rows in bytes: all agree, or there is one that doesn't and that all before
-- it do.
use Prim.Native.Nat.{ℕ, zero, suc, ◌+◌, ◌*◌, ◌≤◌, ◌<◌}
use mathlib.Core.Path.{◌≡◌, refl, sym, ap, ◌∙◌}
use mathlib.Core.Bool.{Bool, true, false, cond}
use mathlib.Core.List.{List, map}
use mathlib.Core.Logic.{◌⊎◌, inl, inr, ⊎_elim}
use native.Mathlib.Omega.{arith}
use native.Mathlib.Decide.{dec_le}
use lib.IntN.{ℤ}
use lib.ListN.{drop}
use lib.Seq.{drop-drop}
use Rattle.row.specs.Rows.{row_of, row_length}
use Rattle.tie_rod.specs.Calls.{pieces}
use Rattle.grade.specs.Grades.{stress_at, agrees, first_outside}

module _ (near : ℕ → Bool) where
  -- The first of n rows, from row j on, that isn't near, counted from 1; 0 for none.
  unfoldable pub first_where : (j n : ℕ) → ℕ
  first_where j zero = 0
  first_where j (suc n) = cond (near j) (first_where (j + 1) n) (j + 1)

  -- All rows from j on and before `to` are near.
  abbrev pub AllNear : (j to : ℕ) → Type 0
  AllNear j to = (i : ℕ) → j ≤ i → i < to → near i ≡ true

  -- One of n rows isn't, and all before it are.
  pub record OneOutside (j n : ℕ) : Type 0 where
    pub at : ℕ
    pub from : j ≤ at
    pub there : at < j + n
    pub before : AllNear j at
    pub outside : near at ≡ false

  pub none_outside : (j n : ℕ) → AllNear j (j + n) → first_where j n ≡ 0
  unfolding first_where
  none_outside j zero all = refl
  none_outside j (suc n) all = rw (all j (omega arith) (omega arith)) (none_outside (j + 1) n (λ i from there. all i (omega arith) (omega arith)))

  pub first_is_outside : (j n : ℕ) (one : OneOutside j n) → first_where j n ≡ one.at + 1
  unfolding first_where
  first_is_outside j zero one = absurd (omega (arith, one.from, one.there))
  first_is_outside j (suc n) one = by_place (dec_le (j + 1) one.at) (λ later. first_is_outside (j + 1) n later)
    where
      by_place : Dec (j + 1 ≤ one.at) → ((later : OneOutside (j + 1) n) → first_where (j + 1) n ≡ later.at + 1)
          → cond (near j) (first_where (j + 1) n) (j + 1) ≡ one.at + 1
      by_place (yes more) onward =
          rw (one.before j (omega arith) (omega (arith, more)))
          (onward (record { at = one.at; from = more; there = omega (arith, one.there); before = λ i from to. one.before i (omega arith) to; outside = one.outside }))
      by_place (no h) onward =
          let here : one.at ≡ j = omega (arith, one.from, h) in
          rw (sym (ap near here) ∙ one.outside) (ap (λ (k : ℕ). k + 1) (sym here))

  pub near_or_outside : (j n : ℕ) → AllNear j (j + n) ⊎ OneOutside j n
  near_or_outside j zero = inl (λ i from there. absurd (omega arith))
  near_or_outside j (suc n) = by_row (near j) refl (near_or_outside (j + 1) n)
    where
      first_near : near j ≡ true → (i : ℕ) → j ≤ i → (j + 1 ≤ i → near i ≡ true) → near i ≡ true
      first_near e i from onward = by_place (dec_le (j + 1) i)
        where
          by_place : Dec (j + 1 ≤ i) → near i ≡ true
          by_place (yes more) = onward more
          by_place (no h) = let here : i ≡ j = omega (arith, from, h) in ap near here ∙ e

      by_row : (b : Bool) → near j ≡ b → AllNear (j + 1) (j + 1 + n) ⊎ OneOutside (j + 1) n → AllNear j (j + suc n) ⊎ OneOutside j (suc n)
      by_row false e onward = inr (record { at = j; from = omega arith; there = omega arith; before = λ i from to. absurd (omega arith); outside = e })
      by_row true e onward =
          ⊎_elim (λ all. inl (λ i from there. first_near e i from (λ more. all i more (omega arith))))
          (λ one. inr (record {
            at = one.at;
            from = omega (arith, one.from);
            there = omega (arith, one.there);
            before = λ i from to. first_near e i from (λ more. one.before i more to);
            outside = one.outside;
          }))
          onward

-- Our rows as they stand in some bytes.
pub first_in_bytes : (tolerance : ℤ) (theirs ours : List ℕ) (j n : ℕ)
    → first_outside tolerance theirs j (map row_of (pieces row_length n (drop (row_length * j) ours)))
    ≡ first_where (λ i. agrees tolerance (stress_at theirs i) (stress_at ours i)) j n
unfolding first_outside first_where pieces
first_in_bytes tolerance theirs ours j zero = refl
first_in_bytes tolerance theirs ours j (suc n) =
    let on : row_length * j + row_length ≡ row_length * (j + 1) = omega arith in
    let next : drop row_length (drop (row_length * j) ours) ≡ drop (row_length * (j + 1)) ours = drop-drop row_length (row_length * j) ours ∙ ap (λ (k : ℕ). drop k ours) on in
    ap (λ (k : ℕ). cond (agrees tolerance (stress_at theirs j) (stress_at ours j)) k (j + 1))
    (ap (λ (l : List ℕ). first_outside tolerance theirs (j + 1) (map row_of (pieces row_length n l))) next ∙ first_in_bytes tolerance theirs ours (j + 1) n)
