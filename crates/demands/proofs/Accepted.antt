-- The pairs that a call accepted (SPEC 11.3, 11.6), from a sheet and a state that pass 1 to 6 and 13: the first j of them are a history, a
-- run of them hands its last state back, and the call wrote their rows.
use Prim.Native.Nat.{ℕ, ◌+◌, ◌*◌, ◌/◌, ◌%◌, ◌≤◌}
use mathlib.Core.Path.{◌≡◌, refl, sym, ap, subst, ◌∙◌}
use mathlib.Core.Bool.{Bool, true, false, cond}
use mathlib.Core.List.{List, [], ◌++◌, map, append_assoc}
use mathlib.Core.Logic.{◌⊎◌, inl, inr}
use native.Mathlib.Nat.{mul-div_right, mul-div-le, mul-mod_right}
use native.Mathlib.Omega.{arith}
use borrow.Author.Tests.{eq-eqb, le-ltb}
use lib.Dec.{eqb}
use lib.ListN.{length, take, drop, replicate, length-replicate, take-append-drop}
use lib.Seq.{length-take-le}
use Rattle.refusals.specs.Table.{refused, passes, first_of, NoneApplies, Given}
use Rattle.refusals.proofs.FirstLaws.{goes_on, none_passes, passes_none_applies, none_split, decides}
use Rattle.ranges.specs.Ranges.{most_pairs}
use Rattle.pair.specs.Pairs.{pair_length, list_refusals}
use Rattle.row.specs.Rows.{row_of, row_length}
use Rattle.sheet.specs.declared.Sheet.{Sheet}
use Rattle.sheet.specs.Sheets.{sheet_of, sheet_refusals}
use Rattle.rod.specs.declared.Rod.{Rod}
use Rattle.rod.specs.declared.step.Advance.{Advance}
use Rattle.state.specs.States.{state_of, state_bytes, state_length, state_refusals}
use Rattle.rod.specs.Against.{against_refusals}
use Rattle.state.specs.Passing.{StatePasses}
use Rattle.state.proofs.Passing.{accepted_state_passes}
use Rattle.state.proofs.RoundTrip.{rod_back}
use Rattle.carry.specs.Walk.{last_rod, rows_of, rows_bytes, History}
use Rattle.carry.proofs.Histories.{rows_append, bytes_append, history_prefix}
use Rattle.judge.specs.Standing.{ready_of, standing_refusals}
use Rattle.judge.proofs.JudgeLaws.{standing_accepted}
use Rattle.tie_rod.specs.Calls.{run, Call, call, pieces, count_in, pairs_in, buffer_refusals, length_refusals, call_refusals, Left, handed, call_leaves}
use Rattle.tie_rod.proofs.PieceLaws.{length_pieces, pieces_within}
use Rattle.tie_rod.proofs.CallLaws.{lengths_pass}
use Rattle.demands.specs.Lists.{state_after, accepted_in, state_in}
use Rattle.demands.proofs.Splits.{take_pieces, history_passes, rows_back}
use Rattle.demands.proofs.Demand1.{when_call, when_all, call_number, accepted_most, accepted_none, accepts, next_long, written_as, pairs_leave}

-- With room for j rows and a state a run of j pairs doesn't meet 12,
pub roomy : (j rows next : ℕ) → rows ≡ row_length * j → next ≡ state_length → NoneApplies (buffer_refusals j rows next)
unfolding buffer_refusals
roomy j rows next q n = rw (q, n, le-ltb (row_length * j) (row_length * j) (omega arith)) (refl, tt)

-- nor 7, where a list may have so many.
roomy_run : (j pairs rows next : ℕ) → j ≤ most_pairs → pairs ≡ pair_length * j → rows ≡ row_length * j → next ≡ state_length → NoneApplies (length_refusals run pairs rows next)
unfolding length_refusals list_refusals
roomy_run j pairs rows next few p q n =
    let count : pair_length * j / pair_length ≡ j = mul-div_right j (omega arith) in
    let whole : pair_length * j % pair_length ≡ 0 = mul-mod_right pair_length j in
    rw (p, count, whole, le-ltb most_pairs j few) (refl, roomy j rows next q n)

-- With these bytes the sheet meets none of 1 to 6 and 13.
pub standing_passes : (sheet : List ℕ) → first_of (sheet_refusals sheet) (sheet_of sheet) ≡ passes (sheet_of sheet)
    → (r : Rod) → StatePasses (sheet_of sheet) r → NoneApplies (standing_refusals sheet (state_bytes r))
unfolding standing_refusals against_refusals first_of
standing_passes sheet passed r p =
    let h = sheet_of sheet in
    let state = state_bytes r in
    let against = against_refusals h (state_of state) in
    passes_none_applies (sheet_refusals sheet ++ (state_refusals state ++ against)) r
    (goes_on (sheet_refusals sheet) (state_refusals state ++ against) h r passed
    ∙ goes_on (state_refusals state) against (state_of state) r p.reads_back
    ∙ ap (λ (x : Rod). first_of (against_refusals h x) r) (rod_back r p.fits) ∙ goes_on (against_refusals h r) [] r r p.against)

module _ (sheet state : List ℕ) (standing : NoneApplies (standing_refusals sheet state)) where
  abbrev h : Sheet
  h = sheet_of sheet

  abbrev r : Rod
  r = state_of state

  pub rod_passes : StatePasses h r
  rod_passes =
      accepted_state_passes h r (standing_accepted sheet state (none_passes (standing_refusals sheet state) (ready_of sheet state) standing)).1

  module _ (c : Call) where
    abbrev leaves : Left
    leaves = call_leaves sheet state c

    abbrev accepted : ℕ
    accepted = accepted_in sheet state c

    -- ---- All accepted pairs

    -- They are a history, there are no more of them than a list may have, and the call wrote their rows and handed their state on.
    record Wrote (m : ℕ) : Type 0 where
      few : m ≤ most_pairs
      there : pair_length * m ≤ length c.pairs
      advances : List Advance
      history : History h r (pieces pair_length m c.pairs) advances
      behind : List ℕ
      rows : leaves.rows ≡ rows_bytes (rows_of advances) ++ behind
      after : state ≡ state_bytes r → state_after sheet state c ≡ state_bytes (last_rod r advances)
      after_rod : state_of (state_after sheet state c) ≡ last_rod r advances

    -- A call refused itself accepts none, and hands the old state on.
    old_handed_on : {n : ℕ} → Given (call_refusals c) n → state_after sheet state c ≡ state
    unfolding state_after handed
    old_handed_on g =
        ap (λ (l : Left). cond (eqb (length c.next) state_length) l.next state) (when_call sheet state c standing g)
        ∙ by_length (eqb (length c.next) state_length)
      where
        by_length : (b : Bool) → cond b (cond b state c.next) state ≡ state
        by_length true = refl
        by_length false = refl

    wrote_none : {n : ℕ} → Given (call_refusals c) n → Wrote 0
    unfolding pieces last_rod rows_bytes
    wrote_none g =
        record {
          few = omega arith;
          there = omega arith;
          advances = [];
          history = tt;
          behind = c.rows;
          rows = ap (λ (l : Left). l.rows) (when_call sheet state c standing g);
          after = λ own. old_handed_on g ∙ own;
          after_rod = ap state_of (old_handed_on g);
        }

    wrote_some : NoneApplies (call_refusals c) → Wrote accepted
    unfolding state_after
    wrote_some own =
        let a = accepts sheet state c standing own in
        let w = pairs_leave sheet state c a in
        let roomy = lengths_pass c.kind (length c.pairs) (length c.rows) (length c.next) c (none_passes (call_refusals c) c own) in
        let most : accepted ≤ count_in c.pairs = accepted_most sheet state c standing own in
        let long = eq-eqb (length c.next) state_length (next_long sheet state c own) in
        let last = history_passes h r (pieces pair_length accepted c.pairs) a.advances rod_passes a.history in
        record {
          few = omega (arith, most, roomy.few);
          there = omega (arith, most, mul-div-le (length c.pairs) pair_length);
          advances = a.advances;
          history = a.history;
          behind = drop (row_length * accepted) c.rows;
          rows = w.rows;
          after = λ is. rw long w.next;
          after_rod = rw long (ap state_of w.next ∙ rod_back (last_rod r a.advances) last.fits);
        }

    wrote : Wrote accepted
    wrote = by_call (decides (call_refusals c))
      where
        by_call : ((n : ℕ) × Given (call_refusals c) n) ⊎ NoneApplies (call_refusals c) → Wrote accepted
        by_call (inl (n, g)) = subst Wrote (sym (accepted_none sheet state c state (call_number sheet state c g) (when_call sheet state c standing g))) (wrote_none g)
        by_call (inr own) = wrote_some own

    -- ---- The first j of them

    abbrev first_only : (j : ℕ) → Call
    first_only j = call run (take (pair_length * j) c.pairs) (replicate (row_length * j) 0) (replicate state_length 0)

    -- A run of them hands back the state that they left.
    run_of : (j : ℕ) (advances : List Advance) → j ≤ most_pairs → pair_length * j ≤ length c.pairs → History h r (pieces pair_length j c.pairs) advances
        → state_in sheet state c j ≡ state_bytes (last_rod r advances)
    unfolding state_in
    run_of j advances few there history =
        let first = take (pair_length * j) c.pairs in
        let long : length first ≡ pair_length * j = length-take-le (pair_length * j) c.pairs there in
        let count : count_in first ≡ j = ap (λ (n : ℕ). n / pair_length) long ∙ mul-div_right j (omega arith) in
        let items : pairs_in first ≡ pieces pair_length j c.pairs =
        ap (λ (n : ℕ). pieces pair_length n first) count ∙ pieces_within pair_length j c.pairs there in
        let own : NoneApplies (call_refusals (first_only j)) =
        roomy_run j _ _ _ few long (length-replicate {A = ℕ} (row_length * j) 0) (length-replicate {A = ℕ} state_length 0) in
        let all = subst (λ (l : List (List ℕ)). History h r l advances) (sym items) history in
        (written_as sheet state (first_only j) advances own refl (when_all sheet state (first_only j) standing own advances all)).next

    pub record Upto (j : ℕ) : Type 0 where
      pub advances : List Advance
      pub history : History h r (pieces pair_length j c.pairs) advances
      pub rows : map row_of (pieces row_length j leaves.rows) ≡ rows_of advances
      pub state_is : state_in sheet state c j ≡ state_bytes (last_rod r advances)
      pub passes_again : StatePasses h (last_rod r advances)
      pub rod_is : state_of (state_in sheet state c j) ≡ last_rod r advances

    pub upto : (j : ℕ) → j ≤ accepted → Upto j
    upto j less =
        let w = wrote in
        let first = take j w.advances in
        let later = drop j w.advances in
        let pairs = pieces pair_length j c.pairs in
        let history : History h r pairs first =
        subst (λ (l : List (List ℕ)). History h r l first) (take_pieces pair_length j accepted c.pairs less)
        (history_prefix h r (pieces pair_length accepted c.pairs) w.advances j w.history) in
        let bytes : rows_bytes (rows_of w.advances) ≡ rows_bytes (rows_of first) ++ rows_bytes (rows_of later) =
        ap (λ (l : List Advance). rows_bytes (rows_of l)) (sym (take-append-drop j w.advances))
        ∙ ap rows_bytes (rows_append first later) ∙ bytes_append (rows_of first) (rows_of later) in
        let behind = rows_bytes (rows_of later) ++ w.behind in
        let rows : leaves.rows ≡ rows_bytes (rows_of first) ++ behind =
        w.rows ∙ ap (λ (l : List ℕ). l ++ w.behind) bytes ∙ append_assoc (rows_bytes (rows_of first)) (rows_bytes (rows_of later)) w.behind in
        let many = length_pieces pair_length j c.pairs in
        let state_is = run_of j first (omega (arith, less, w.few)) (omega (arith, less, w.there)) history in
        let last = history_passes h r pairs first rod_passes history in
        record {
          advances = first;
          history = history;
          rows = ap (λ (l : List ℕ). map row_of (pieces row_length j l)) rows
              ∙ ap (λ (n : ℕ). map row_of (pieces row_length n (rows_bytes (rows_of first) ++ behind))) (sym many)
              ∙ rows_back h r pairs first behind rod_passes history;
          state_is = state_is;
          passes_again = last;
          rod_is = ap state_of state_is ∙ rod_back (last_rod r first) last.fits;
        }

    pub ends_after : state ≡ state_bytes r → state_in sheet state c accepted ≡ state_after sheet state c
    ends_after own = run_of accepted wrote.advances wrote.few wrote.there wrote.history ∙ sym (wrote.after own)

    pub ends_rod : state_of (state_in sheet state c accepted) ≡ state_of (state_after sheet state c)
    ends_rod =
        let last = history_passes h r (pieces pair_length accepted c.pairs) wrote.advances rod_passes wrote.history in
        ap state_of (run_of accepted wrote.advances wrote.few wrote.there wrote.history) ∙ rod_back (last_rod r wrote.advances) last.fits ∙ sym wrote.after_rod

    pub starts_before : state ≡ state_bytes r → state_in sheet state c 0 ≡ state
    unfolding pieces last_rod
    starts_before own = run_of 0 [] (omega arith) (omega arith) tt ∙ sym own

    pub starts_rod : state_of (state_in sheet state c 0) ≡ r
    unfolding pieces last_rod
    starts_rod = ap state_of (run_of 0 [] (omega arith) (omega arith) tt) ∙ rod_back r rod_passes.fits

    pub standing_at : (j : ℕ) → j ≤ accepted → NoneApplies (standing_refusals sheet (state_in sheet state c j))
    unfolding standing_refusals
    standing_at j less =
        let u = upto j less in
        let sheet-none = (none_split (sheet_refusals sheet) (state_refusals state ++ against_refusals h r) standing).0 in
        subst (λ (l : List ℕ). NoneApplies (standing_refusals sheet l)) (sym u.state_is)
        (standing_passes sheet (none_passes (sheet_refusals sheet) h sheet-none) (last_rod r u.advances) u.passes_again)
