-- A list split at one place, and rows read back from the bytes of a list of them (SPEC 3.17).
use Prim.Native.Nat.{ℕ, zero, suc, ◌+◌, ◌≤◌}
use mathlib.Core.Path.{◌≡◌, refl, ap, ◌∙◌}
use mathlib.Core.List.{List, [], ◌∷◌, ◌++◌, map, append_assoc}
use native.Mathlib.Omega.{arith}
use lib.ListN.{length, take, drop}
use lib.Seq.{take_at, drop_at}
use Rattle.refusals.specs.Table.{passes}
use Rattle.row.specs.Rows.{row_of, row_bytes, row_length}
use Rattle.row.proofs.RowLaws.{row_back}
use Rattle.sheet.specs.declared.Sheet.{Sheet}
use Rattle.rod.specs.declared.Rod.{Rod}
use Rattle.rod.specs.declared.step.Advance.{Advance}
use Rattle.state.specs.Passing.{StatePasses}
use Rattle.carry.specs.Walk.{pair_answer, last_rod, rows_of, rows_bytes, History}
use Rattle.carry.proofs.PairAnswers.{next_passes}
use Rattle.carry.proofs.Histories.{length_row}
use Rattle.tie_rod.specs.Calls.{pieces}

module _ {A : Type 0} where
  cons_first : (x y : A) (p q : List A) → x ∷ p ≡ y ∷ q → x ≡ y
  cons_first x y p q e = cc

  cons_rest : (x y : A) (p q : List A) → x ∷ p ≡ y ∷ q → p ≡ q
  cons_rest x y p q e = cc

  -- Two splits of one list behind equally many elements are one.
  pub split_front : (a b : List A) (x y : A) (p q : List A) → length a ≡ length b → a ++ (x ∷ p) ≡ b ++ (y ∷ q) → a ≡ b
  split_front [] [] x y p q long e = refl
  split_front [] (c ∷ b) x y p q long e = absurd (omega (arith, long))
  split_front (d ∷ a) [] x y p q long e = absurd (omega (arith, long))
  split_front (d ∷ a) (c ∷ b) x y p q long e =
      let front = split_front a b x y p q (omega (arith, long)) (cons_rest d c (a ++ (x ∷ p)) (b ++ (y ∷ q)) e) in
      let first = cons_first d c (a ++ (x ∷ p)) (b ++ (y ∷ q)) e in
      λ i. first i ∷ front i

  pub split_next : (a b : List A) (x y : A) (p q : List A) → length a ≡ length b → a ++ (x ∷ p) ≡ b ++ (y ∷ q) → x ≡ y
  split_next [] [] x y p q long e = cons_first x y p q e
  split_next [] (c ∷ b) x y p q long e = absurd (omega (arith, long))
  split_next (d ∷ a) [] x y p q long e = absurd (omega (arith, long))
  split_next (d ∷ a) (c ∷ b) x y p q long e =
      split_next a b x y p q (omega (arith, long)) (cons_rest d c (a ++ (x ∷ p)) (b ++ (y ∷ q)) e)

  pub map_append : {B : Type 0} (f : A → B) (l m : List A) → map f (l ++ m) ≡ map f l ++ map f m
  map_append f [] m = refl
  map_append f (x ∷ l) m = ap (λ (n : List _). f x ∷ n) (map_append f l m)

-- The first pieces among more.
pub take_pieces : (size j m : ℕ) (bytes : List ℕ) → j ≤ m → take j (pieces size m bytes) ≡ pieces size j bytes
unfolding pieces
take_pieces size zero m bytes few = refl
take_pieces size (suc j) zero bytes few = absurd (omega arith)
take_pieces size (suc j) (suc m) bytes few = ap (λ (l : List (List ℕ)). take size bytes ∷ l) (take_pieces size j m (drop size bytes) (omega arith))

module _ (h : Sheet) where
  -- After each pair of a history from a state that passes the state passes.
  pub history_passes : (r : Rod) (pairs : List (List ℕ)) (advances : List Advance) → StatePasses h r → History h r pairs advances → StatePasses h (last_rod r advances)
  unfolding last_rod
  history_passes r [] [] p e = p
  history_passes r [] (a ∷ advances) p e = absurd e
  history_passes r (pair ∷ pairs) [] p e = absurd e
  history_passes r (pair ∷ pairs) (a ∷ advances) p (e, rest) = history_passes a.rod pairs advances (next_passes pair p.accepted e).0 rest

  -- The rows of a history are read back from their bytes, whatever stands behind those.
  pub rows_back : (r : Rod) (pairs : List (List ℕ)) (advances : List Advance) (behind : List ℕ) → StatePasses h r → History h r pairs advances
      → map row_of (pieces row_length (length pairs) (rows_bytes (rows_of advances) ++ behind)) ≡ rows_of advances
  unfolding pieces rows_bytes
  rows_back r [] [] behind p e = refl
  rows_back r [] (a ∷ advances) behind p e = absurd e
  rows_back r (pair ∷ pairs) [] behind p e = absurd e
  rows_back r (pair ∷ pairs) (a ∷ advances) behind p (e, others) =
      let (next, fits) = next_passes pair p.accepted e in
      let first = row_bytes a.row in
      let rest = rows_bytes (rows_of advances) in
      let apart : first ++ rest ++ behind ≡ first ++ (rest ++ behind) = append_assoc first rest behind in
      let row : row_of (take row_length (first ++ rest ++ behind)) ≡ a.row =
      ap (λ (l : List ℕ). row_of (take row_length l)) apart
      ∙ ap row_of (take_at first (rest ++ behind) row_length (length_row a.row)) ∙ row_back a.row fits in
      let more : map row_of (pieces row_length (length pairs) (drop row_length (first ++ rest ++ behind))) ≡ rows_of advances =
      ap (λ (l : List ℕ). map row_of (pieces row_length (length pairs) (drop row_length l))) apart
      ∙ ap (λ (l : List ℕ). map row_of (pieces row_length (length pairs) l)) (drop_at first (rest ++ behind) row_length (length_row a.row))
      ∙ rows_back a.rod pairs advances behind next others in
      λ i. row i ∷ more i

  -- The last pair of a history, and what stands before it.
  pub record LastPair (r : Rod) (pairs : List (List ℕ)) (pair : List ℕ) (advances : List Advance) : Type 0 where
    pub before : List Advance
    pub last : Advance
    pub apart : advances ≡ before ++ (last ∷ [])
    pub history : History h r pairs before
    pub accepted : pair_answer h (last_rod r before) pair ≡ passes last

  pub last_pair : (r : Rod) (pairs : List (List ℕ)) (pair : List ℕ) (advances : List Advance) → History h r (pairs ++ (pair ∷ [])) advances → LastPair r pairs pair advances
  unfolding last_rod
  last_pair r [] pair [] e = absurd e
  last_pair r [] pair (a ∷ []) (e, rest) = record { before = []; last = a; apart = refl; history = tt; accepted = e }
  last_pair r [] pair (a ∷ (b ∷ advances)) (e, rest) = absurd rest
  last_pair r (first ∷ pairs) pair [] e = absurd e
  last_pair r (first ∷ pairs) pair (a ∷ advances) (e, rest) =
      let l = last_pair a.rod pairs pair advances rest in
      record {
        before = a ∷ l.before;
        last = l.last;
        apart = ap (λ (m : List Advance). a ∷ m) l.apart;
        history = (e, l.history);
        accepted = l.accepted;
      }
