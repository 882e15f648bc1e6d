-- A member of a section beside a lone rod that is given its single pair (SPEC 15.9): both accept, and come to the same state and history, or
-- both get the same number.
use Prim.Native.Nat.{ℕ, ◌+◌, ◌/◌}
use mathlib.Core.Path.{◌≡◌, refl, sym, ap, subst, ◌∙◌}
use mathlib.Core.List.{List, [], ◌∷◌, ◌++◌}
use native.Mathlib.Omega.{arith}
use lib.ListN.{replicate, length-replicate}
use lib.Seq.{take_all}
use Rattle.refusals.specs.Table.{Answer, passes, refused, first_of, NoneApplies}
use Rattle.refusals.proofs.FirstLaws.{goes_on, passes_anyhow, refused_anyhow, passes_none_applies, same_refused}
use Rattle.pair.specs.declared.Pair.{Pair}
use Rattle.pair.specs.Pairs.{pair_length, pair_bytes}
use Rattle.pair.proofs.PairLaws.{length_pair, pair_back}
use Rattle.row.specs.Rows.{row_length}
use Rattle.sheet.specs.declared.Sheet.{Sheet}
use Rattle.sheet.specs.Sheets.{sheet_of, sheet_refusals}
use Rattle.sheet.specs.Sound.{SheetSound}
use Rattle.rod.specs.declared.Rod.{Rod}
use Rattle.rod.specs.declared.step.Advance.{Advance}
use Rattle.rod.specs.Accepted.{PairAccepted}
use Rattle.state.specs.States.{state_of, state_bytes, state_length}
use Rattle.carry.specs.Walk.{pair_answer, last_rod, History}
use Rattle.carry.proofs.PairAnswers.{pair_read, pair_then_step}
use Rattle.judge.specs.Standing.{holder_refusals, ready_of, standing_refusals}
use Rattle.section.specs.declared.Member.{Member}
use Rattle.section.specs.declared.Change.{Change}
use Rattle.section.specs.Sections.{member_pair, member_answer}
use Rattle.section.proofs.MemberLaws.{member_passed, state_stops, step_decides}
use Rattle.tie_rod.specs.Calls.{single, Call, pieces, piece_at, count_in, pairs_in, length_refusals, buffer_refusals, call_refusals, Left, call_leaves}
use Rattle.tie_rod.proofs.CallLaws.{handed_whole, standing_stops}
use Rattle.demands.specs.Lists.{Situation, after_call}
use Rattle.demands.specs.Sections.{lone_call}
use Rattle.demands.proofs.Demand1.{went_to, when_all, when_until}
use Rattle.demands.proofs.Singles.{lone_pieces, single_leads}

-- A call with the bytes of one pair, room for one row and a state meets neither 7 nor 12.
lone_lengths : (pairs rows next : ℕ) → pairs ≡ pair_length → rows ≡ row_length → next ≡ state_length → NoneApplies (length_refusals single pairs rows next)
unfolding length_refusals buffer_refusals
lone_lengths pairs rows next p q n = rw (p, q, n) (refl, (refl, tt))

module _ (sheet : List ℕ) (passed : first_of (sheet_refusals sheet) (sheet_of sheet) ≡ passes (sheet_of sheet)) (sound : SheetSound (sheet_of sheet)) where
  abbrev h : Sheet
  h = sheet_of sheet

  module _ (c : Change) (m : Member) where
    abbrev rod : Rod
    rod = state_of m.state

    abbrev pair : Pair
    pair = member_pair c m

    abbrev bytes : List ℕ
    bytes = pair_bytes pair

    abbrev lone : Call
    lone = lone_call c m

    count : count_in bytes ≡ 1
    count = ap (λ (n : ℕ). n / pair_length) (length_pair pair)

    alone : pairs_in bytes ≡ bytes ∷ []
    alone = ap (λ (n : ℕ). pieces pair_length n bytes) count ∙ lone_pieces bytes (length_pair pair)

    own : NoneApplies (call_refusals lone)
    own = lone_lengths _ _ _ (length_pair pair) (length-replicate {A = ℕ} row_length 0) (length-replicate {A = ℕ} state_length 0)

    standing : {A : Type 0} (v : A) → first_of (holder_refusals h m.state) v ≡ passes v → NoneApplies (standing_refusals sheet m.state)
    unfolding standing_refusals
    standing v state =
        passes_none_applies (sheet_refusals sheet ++ holder_refusals h m.state) v (goes_on (sheet_refusals sheet) (holder_refusals h m.state) h v passed ∙ state)

    module _ {a : Advance} (e : member_answer h c m ≡ passes a) where
      accepts : pair_answer h rod bytes ≡ passes a
      accepts =
          let p = member_passed h c m sound e in
          sym (pair_then_step h rod bytes (pair_back pair p.in_range) (sym p.step))

      leaves : call_leaves sheet m.state lone ≡ went_to sheet m.state lone (record { advances = a ∷ []; number = 0 })
      leaves =
          let history = subst (λ (l : List (List ℕ)). History h rod l (a ∷ [])) (sym alone) (accepts, tt) in
          when_all sheet m.state lone (standing rod (member_passed h c m sound e).state) own (a ∷ []) history

      -- The single pair is accepted,
      pub lone_number : (call_leaves sheet m.state lone).reply.number ≡ 0
      lone_number = ap (λ (l : Left). l.reply.number) leaves

      -- hands the member's next state on,
      pub lone_next : (call_leaves sheet m.state lone).next ≡ state_bytes a.rod
      unfolding last_rod
      lone_next = ap (λ (l : Left). l.next) leaves ∙ handed_whole (state_bytes a.rod) (replicate state_length 0) (length-replicate {A = ℕ} state_length 0)

      -- and adds its own pair to a history.
      pub lone_after : (s : Situation) → s.state ≡ m.state
          → ((after_call sheet s lone).state ≡ state_bytes a.rod) × ((after_call sheet s lone).history ≡ s.history ++ (pair ∷ []))
      lone_after s is =
          let from = ap (λ (l : List ℕ). call_leaves sheet l lone) is in
          let leads = single_leads sheet s bytes (replicate row_length 0) (replicate state_length 0) (ap (λ (l : Left). l.reply.number) from ∙ lone_number) in
          let back = sym (pair_read bytes (pair_back pair (member_passed h c m sound e).in_range)).0 in
          (ap (λ (x : Situation). x.state) leads ∙ ap (λ (l : Left). l.next) from ∙ lone_next, ap (λ (x : Situation). x.history) leads ∙ ap (λ (p : Pair). s.history ++ (p ∷ [])) back)

    -- A member that is refused with a pair in its ranges: the lone rod gets the same number.
    pub lone_refused : {n : ℕ} → member_answer h c m ≡ refused n → PairAccepted pair → (call_leaves sheet m.state lone).reply.number ≡ n
    unfolding standing_refusals pieces last_rod
    lone_refused {n} e right = by_state (first_of (holder_refusals h m.state) rod) refl
      where
        by_state : (x : Answer Rod) → first_of (holder_refusals h m.state) rod ≡ x → (call_leaves sheet m.state lone).reply.number ≡ n
        by_state (refused k) is =
            let ready = ready_of sheet m.state in
            let stops = goes_on (sheet_refusals sheet) (holder_refusals h m.state) h ready passed ∙ refused_anyhow (holder_refusals h m.state) rod ready k is in
            ap (λ (l : Left). l.reply.number) (standing_stops sheet m.state lone stops) ∙ same_refused k n (sym (state_stops h c m rod is) ∙ e)
        by_state (passes q) is =
            let refuses = sym (pair_then_step h rod bytes (pair_back pair right) (sym (sym (step_decides h c m rod is right) ∙ e))) in
            let first : piece_at pair_length 0 bytes ≡ bytes = take_all pair_length bytes (omega (arith, length_pair pair)) in
            ap (λ (l : Left). l.reply.number)
            (when_until sheet m.state lone {m = 0} (standing rod (passes_anyhow (holder_refusals h m.state) rod rod is)) own
            (record { few = omega (arith, count); advances = []; history = tt; refuses = ap (pair_answer h rod) first ∙ refuses }))
