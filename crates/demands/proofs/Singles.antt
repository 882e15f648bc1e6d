-- A single pair that is accepted (SPEC 9.6, 11.3, 11.4): it is one pair, and leads to its state with its own pair and row.
use Prim.Native.Nat.{ℕ, ◌+◌, ◌/◌}
use mathlib.Core.Path.{◌≡◌, ap, ◌∙◌}
use mathlib.Core.List.{List, [], ◌∷◌, ◌++◌, map}
use native.Mathlib.Omega.{arith}
use borrow.Author.Tests.{eqb-true, not-false, eq-eqb}
use lib.Dec.{eqb}
use lib.ListN.{length}
use lib.Seq.{take_all}
use Rattle.pair.specs.Pairs.{pair_of, pair_length}
use Rattle.row.specs.Rows.{row_of, row_length}
use Rattle.state.specs.States.{state_length}
use Rattle.tie_rod.specs.Calls.{Call, call, single, pieces, piece_at, count_in, length_refusals, Left, call_leaves}
use Rattle.tie_rod.proofs.Numbers.{accepted_whole}
use Rattle.demands.specs.Lists.{Situation, accepted_by, accepted_in, state_after, row_in, after_call}

-- The bytes of one pair are that pair.
pub lone_pieces : (bytes : List ℕ) → length bytes ≡ pair_length → pieces pair_length 1 bytes ≡ bytes ∷ []
unfolding pieces
lone_pieces bytes long = ap (λ (l : List ℕ). l ∷ []) (take_all pair_length bytes (omega (arith, long)))

module _ (sheet state pair rows next : List ℕ) where
  abbrev c : Call
  c = call single pair rows next

  module _ (none : (call_leaves sheet state c).reply.number ≡ 0) where
    -- The list is as long as a pair,
    single_long : length pair ≡ pair_length
    unfolding length_refusals
    single_long = eqb-true (length pair) pair_length (not-false (eqb (length pair) pair_length) (accepted_whole sheet state c none).own.0)

    -- its first piece is the whole of it,
    pub single_pair : piece_at pair_length 0 pair ≡ pair
    single_pair = take_all pair_length pair (omega (arith, single_long))

    -- one pair was accepted,
    pub single_accepted : accepted_in sheet state c ≡ 1
    unfolding accepted_in
    single_accepted =
        ap (λ (n : ℕ). accepted_by n (call_leaves sheet state c).reply.place (count_in pair)) none ∙ ap (λ (n : ℕ). n / pair_length) single_long

    -- and the state is handed on.
    pub single_after : state_after sheet state c ≡ (call_leaves sheet state c).next
    unfolding state_after
    single_after = rw (eq-eqb (length next) state_length (accepted_whole sheet state c none).lent)

-- Where it leads from a situation.
module _ (sheet : List ℕ) (s : Situation) (pair rows next : List ℕ) where
  abbrev leaves : Left
  leaves = call_leaves sheet s.state (call single pair rows next)

  pub single_leads : leaves.reply.number ≡ 0
      → after_call sheet s (call single pair rows next)
      ≡ record { state = leaves.next; history = s.history ++ (pair_of pair ∷ []); rows = s.rows ++ (row_in leaves ∷ []) }
  unfolding pieces
  single_leads none =
      let accepted = single_accepted sheet s.state pair rows next none in
      let pairs : map pair_of (pieces pair_length (accepted_in sheet s.state (call single pair rows next)) pair) ≡ pair_of pair ∷ [] =
      ap (λ (n : ℕ). map pair_of (pieces pair_length n pair)) accepted ∙ ap (λ (l : List (List ℕ)). map pair_of l) (lone_pieces pair (single_long sheet s.state pair rows next none)) in
      let written : map row_of (pieces row_length (accepted_in sheet s.state (call single pair rows next)) leaves.rows) ≡ row_in leaves ∷ [] =
      ap (λ (n : ℕ). map row_of (pieces row_length n leaves.rows)) accepted in
      λ i. record { state = single_after sheet s.state pair rows next none i; history = s.history ++ pairs i; rows = s.rows ++ written i }
