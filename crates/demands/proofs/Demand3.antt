-- Demand 3 (SPEC 11.8 to 11.11, 11.15, 11.16): at every stop of every list of calls, trials and keepings the stored rod lies within k
-- grains of the bar without rounding. What was carried on or kept before a stop, and the first pairs of the next call, are one history from
-- the unused rod; the bound is that of histories (11.12).
use Prim.Native.Nat.{ℕ, ◌+◌, ◌≤◌}
use mathlib.Core.Path.{◌≡◌, refl, sym, ap, subst, ◌∙◌}
use mathlib.Core.Bool.{Bool, true, false, cond}
use mathlib.Core.List.{List, [], ◌∷◌, ◌++◌, map}
use native.Mathlib.Omega.{arith}
use borrow.Author.Tests.{eqb-true, eq-eqb}
use lib.Dec.{eqb}
use Rattle.refusals.specs.Table.{first_of, passes, NoneApplies}
use Rattle.refusals.proofs.FirstLaws.{goes_on}
use Rattle.bits.specs.Field.{flag}
use Rattle.pair.specs.declared.Pair.{Pair}
use Rattle.pair.specs.Pairs.{pair_of, pair_length}
use Rattle.row.specs.declared.Row.{Row}
use Rattle.sheet.specs.declared.Sheet.{Sheet}
use Rattle.sheet.specs.Sheets.{sheet_of, sheet_refusals, sheet_field_refusals}
use Rattle.sheet.specs.Sound.{SheetSound}
use Rattle.sheet.proofs.Passed.{passed_sound}
use Rattle.rod.specs.declared.Rod.{Rod}
use Rattle.rod.specs.declared.step.Advance.{Advance}
use Rattle.state.specs.States.{state_of, state_bytes}
use Rattle.rod.specs.Unused.{unused_of}
use Rattle.state.specs.Passing.{StatePasses}
use Rattle.state.proofs.Passing.{unused_state_passes}
use Rattle.state.proofs.RoundTrip.{rod_back}
use Rattle.carry.specs.Walk.{last_rod, rows_of, yielded_rows, History}
use Rattle.carry.proofs.Histories.{last_append, rows_append, history_append}
use Rattle.accuracy.specs.Within.{Marked, AtStop}
use Rattle.accuracy.proofs.Bound.{history_within}
use Rattle.judge.specs.Standing.{standing_refusals}
use Rattle.tie_rod.specs.Calls.{Call, pieces, unused_answer}
use Rattle.trial.specs.Trials.{Trial, as_single, trial_leaves}
use Rattle.demands.specs.Lists.{Keeping, Operation, carries, tries, keeps, Situation, begins, accepted_in, state_after, state_in, stop_in, after_call}
use Rattle.demands.specs.Lists.{row_in, tried_in, kept_in, with_trial, trial_stop, after_keeping, after, after_all, Holds, AtCall, AtTrial, AtKeeping, AtOperation, AtEveryStop, MovedOn}
use Rattle.demands.specs.Demands.{PairSolved}
use Rattle.demands.proofs.Splits.{map_append, history_passes}
use Rattle.demands.proofs.Accepted.{standing_passes, upto, starts_before, ends_after}
use Rattle.demands.proofs.TrialAnswers.{kept_own, keeping_answered}
use Rattle.demands.proofs.Singles.{single_leads}
use Rattle.demands.proofs.Demand2.{each_solved, trial_solved}

-- One row more counts by its own bit.
yielded_append : (rows : List Row) (row : Row) → yielded_rows (rows ++ (row ∷ [])) ≡ yielded_rows rows + flag row.yielded
unfolding yielded_rows
yielded_append [] row = omega arith
yielded_append (x ∷ rows) row = omega (arith, yielded_append rows row)

module _ (sheet : List ℕ) (passed : first_of (sheet_refusals sheet) (sheet_of sheet) ≡ passes (sheet_of sheet)) (sound : SheetSound (sheet_of sheet)) where
  abbrev h : Sheet
  h = sheet_of sheet

  -- A situation that pairs accepted from the unused rod have led to.
  record Reached (s : Situation) : Type 0 where
    pairs : List (List ℕ)
    advances : List Advance
    history : History h (unused_of h) pairs advances
    pairs_are : s.history ≡ map pair_of pairs
    rows_are : s.rows ≡ rows_of advances
    state_is : s.state ≡ state_bytes (last_rod (unused_of h) advances)

  module _ {s : Situation} (x : Reached s) where
    abbrev rod : Rod
    rod = last_rod (unused_of h) x.advances

    rod_fine : StatePasses h rod
    rod_fine = history_passes h (unused_of h) x.pairs x.advances (unused_state_passes h sound) x.history

    rod_is : state_of s.state ≡ rod
    rod_is = ap state_of x.state_is ∙ rod_back rod rod_fine.fits

    standing : NoneApplies (standing_refusals sheet s.state)
    standing = subst (λ (l : List ℕ). NoneApplies (standing_refusals sheet l)) (sym x.state_is) (standing_passes sheet passed rod rod_fine)

    holds : Holds sheet sound s
    holds =
        let bound = history_within h sound x.pairs x.advances x.history in
        record {
          within = subst (λ (t : List Pair × List Row × Rod). AtStop h sound t.0 t.1 t.2)
              (λ i. (sym x.pairs_are i, sym x.rows_are i, sym rod_is i)) bound;
          standing = standing;
        }

    -- The state's bytes are its rod's.
    own : s.state ≡ state_bytes (state_of s.state)
    own = x.state_is ∙ ap state_bytes (sym rod_is)

    module _ (c : Call) where
      -- The first j accepted pairs of a call lead on,
      stop_reached : (j : ℕ) → j ≤ accepted_in sheet s.state c → Reached (stop_in sheet s c j)
      stop_reached j few =
          let u = upto sheet s.state standing c j few in
          let items = pieces pair_length j c.pairs in
          let on : History h rod items u.advances = subst (λ (q : Rod). History h q items u.advances) rod_is u.history in
          record {
            pairs = x.pairs ++ items;
            advances = x.advances ++ u.advances;
            history = history_append h (unused_of h) x.pairs items x.advances u.advances x.history on;
            pairs_are = ap (λ (l : List Pair). l ++ map pair_of items) x.pairs_are ∙ sym (map_append pair_of x.pairs items);
            rows_are = (λ i. x.rows_are i ++ u.rows i) ∙ sym (rows_append x.advances u.advances);
            state_is = u.state_is ∙ ap (λ (q : Rod). state_bytes (last_rod q u.advances)) rod_is
                ∙ ap state_bytes (sym (last_append (unused_of h) x.advances u.advances));
          }

      ends : state_in sheet s.state c (accepted_in sheet s.state c) ≡ state_after sheet s.state c
      ends = ends_after sheet s.state standing c own

      -- and so does all of it.
      after_reached : Reached (after_call sheet s c)
      after_reached =
          let y = stop_reached (accepted_in sheet s.state c) (omega arith) in
          record { pairs = y.pairs; advances = y.advances; history = y.history; pairs_are = y.pairs_are; rows_are = y.rows_are; state_is = sym ends ∙ y.state_is }

  -- A row tells the limit that its pair's trial stress passes.
  marked_by : {r next : Rod} {p : Pair} {row : Row} → PairSolved h sound r p next row → Marked h sound r p row
  marked_by {r} {next} {p} solves =
      let o = solves.solved in
      subst (Marked h sound r p) (sym solves.row_is)
      (record { yielded = o.passes; tension = o.tension; compression = o.compression; flowed = o.marked })

  at_call : {s : Situation} (x : Reached s) (c : Call) → AtCall sheet sound s c
  at_call {s} x c =
      record {
        standing = standing x;
        stops = λ j few. holds (stop_reached x c j few);
        starts = starts_before sheet s.state (standing x) c (own x);
        ends = ends x c;
        marked = λ j few. marked_by ((each_solved sheet s.state (standing x) c sound).each j few);
      }

  -- ---- Trials and keepings

  module _ {s : Situation} (x : Reached s) where
    -- An accepted trial comes to where the single pair would lead.
    trial_reached : (t : Trial) → (tried_in sheet s.state t).reply.number ≡ 0 → Reached (trial_stop sheet s t)
    unfolding trial_leaves
    trial_reached t none = subst Reached (single_leads sheet s t.pair t.row t.next none) (after_reached x (as_single t))

    at_trial : (t : Trial) → AtTrial sheet sound s t
    at_trial t =
        record {
          stop = holds x;
          tried = λ none. holds (trial_reached t none);
          counted = yielded_append s.rows (row_in (tried_in sheet s.state t));
          marked = λ none. marked_by (trial_solved sheet s.state (standing x) sound t none);
        }

    module _ (k : Keeping) where
      -- A keeping with number 0 comes to what its trial answered, which was given the list's state.
      kept_stop : (e : (kept_in sheet s.state k).number ≡ 0)
          → with_trial sheet s k.start k.trial (kept_in sheet s.state k).next ≡ trial_stop sheet s k.trial
      kept_stop e =
          let own = kept_own sheet k.start k.trial s.state k.next e in
          ap (with_trial sheet s k.start k.trial) own.is
          ∙ ap (λ (l : List ℕ). with_trial sheet s l k.trial (tried_in sheet l k.trial).next) (sym own.own)

      from : (kept_in sheet s.state k).number ≡ 0 → k.start ≡ s.state
      from e = sym (kept_own sheet k.start k.trial s.state k.next e).own

      accepted : (kept_in sheet s.state k).number ≡ 0 → (tried_in sheet k.start k.trial).reply.number ≡ 0
      accepted e = (kept_own sheet k.start k.trial s.state k.next e).none

      here : (kept_in sheet s.state k).number ≡ 0 → (tried_in sheet s.state k.trial).reply.number ≡ 0
      here e = subst (λ (l : List ℕ). (tried_in sheet l k.trial).reply.number ≡ 0) (from e) (accepted e)

      keeping_reached : Reached (after_keeping sheet s k)
      keeping_reached = by_number (eqb (kept_in sheet s.state k).number 0) refl
        where
          by_number : (b : Bool) → eqb (kept_in sheet s.state k).number 0 ≡ b
              → Reached (cond b (with_trial sheet s k.start k.trial (kept_in sheet s.state k).next) s)
          by_number true e = let none = eqb-true _ 0 e in subst Reached (sym (kept_stop none)) (trial_reached k.trial (here none))
          by_number false e = x

  after_one : {s : Situation} → Reached s → (o : Operation) → Reached (after sheet s o)
  after_one x (carries c) = after_reached x c
  after_one x (tries t) = x
  after_one x (keeps k) = keeping_reached x k

  after_some : (list : List Operation) {s : Situation} → Reached s → Reached (after_all sheet s list)
  unfolding after_all
  after_some [] x = x
  after_some (o ∷ list) x = after_some list (after_one x o)

  -- The state's n is the length of the history: a state that a longer history led to is another one.
  moved_on : {s : Situation} → Reached s → (more : List Operation) → MovedOn sheet s more
  moved_on {s} x more longer k own e =
      let later = after_some more x in
      let same : s.state ≡ (after_all sheet s more).state = sym own ∙ from later k e in
      omega (arith, (holds x).within.n_counted, (holds later).within.n_counted, ap (λ (l : List ℕ). (state_of l).pairs) same, longer)

  module _ {s : Situation} (x : Reached s) (k : Keeping) where
    same_as_single : (kept_in sheet s.state k).number ≡ 0 → after_keeping sheet s k ≡ after_call sheet s (as_single k.trial)
    unfolding trial_leaves
    same_as_single e =
        ap (λ (b : Bool). cond b (with_trial sheet s k.start k.trial (kept_in sheet s.state k).next) s) (eq-eqb _ 0 e)
        ∙ kept_stop x k e ∙ sym (single_leads sheet s k.trial.pair k.trial.row k.trial.next (here x k e))

    at_keeping : AtKeeping sheet sound s k
    at_keeping =
        record {
          before = holds x;
          behind = holds (keeping_reached x k);
          from = from x k;
          accepted = accepted x k;
          same_as_single = same_as_single;
          kept_back = (keeping_answered sheet k.start k.trial s.state k.next).kept_back;
          marked = λ e. subst (λ (l : List ℕ). Marked h sound (state_of s.state) (pair_of k.trial.pair) (row_in (tried_in sheet l k.trial)))
              (sym (from x k e)) ((at_trial x k.trial).marked (here x k e));
        }

  at_operation : {s : Situation} → Reached s → (o : Operation) → AtOperation sheet sound s o
  at_operation x (carries c) = at_call x c
  at_operation x (tries t) = at_trial x t
  at_operation x (keeps k) = at_keeping x k

  at_every_stop : (list : List Operation) (s : Situation) → Reached s → AtEveryStop sheet sound s list
  at_every_stop [] s x = holds x
  at_every_stop (o ∷ list) s x = (at_operation x o, at_every_stop list (after sheet s o) (after_one x o))

  -- The unused rod has led nowhere yet.
  begins_reached : Reached (begins (state_bytes (unused_of h)))
  unfolding last_rod
  begins_reached = record { pairs = []; advances = []; history = tt; pairs_are = refl; rows_are = refl; state_is = refl }

-- ---- The theorem

-- A sheet from which an unused rod is made passes 1 to 3 and 13, and the bytes are that rod's.
pub unused_made : (sheet : List ℕ) {first : List ℕ} → unused_answer sheet ≡ passes first
    → (first_of (sheet_refusals sheet) (sheet_of sheet) ≡ passes (sheet_of sheet)) × (first ≡ state_bytes (unused_of (sheet_of sheet)))
unfolding unused_answer sheet_refusals sheet_field_refusals first_of
unused_made sheet {first} e =
    let made = state_bytes (unused_of (sheet_of sheet)) in
    let same = goes_on (sheet_refusals sheet) [] made made e in
    (goes_on (sheet_refusals sheet) [] made (sheet_of sheet) e, cc)

-- Demand 3: for every sheet and the unused rod made from it, whatever calls, trials and keepings follow.
pub record AllWithin (sheet first : List ℕ) (sound : SheetSound (sheet_of sheet)) : Type 0 where
  pub lists : (list : List Operation) → AtEveryStop sheet sound (begins first) list
  pub moved_on : (list more : List Operation) → MovedOn sheet (after_all sheet (begins first) list) more
  -- one call more, behind any list
  pub one_more : (list : List Operation) (c : Call) → AtCall sheet sound (after_all sheet (begins first) list) c

pub all_within : (sheet first : List ℕ) → unused_answer sheet ≡ passes first → (sound : SheetSound (sheet_of sheet)) × AllWithin sheet first sound
all_within sheet first made =
    let (passed, is) = unused_made sheet made in
    let sound = (passed_sound sheet passed).1 in
    let begun = begins_reached sheet passed sound in (
      sound,
      subst (λ (l : List ℕ). AllWithin sheet l sound) (sym is)
          (record {
            lists = λ list. at_every_stop sheet passed sound list (begins (state_bytes (unused_of (sheet_of sheet)))) begun;
            moved_on = λ list more. moved_on sheet passed sound (after_some sheet passed sound list begun) more;
            one_more = λ list c. at_call sheet passed sound (after_some sheet passed sound list begun) c;
          }),
    )
