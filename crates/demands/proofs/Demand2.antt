-- Demand 2 (SPEC 9.12, 9.13, 16.9): each accepted pair of a call or a trial, from any sheet and state that pass, reachable or not, leaves
-- the rounding of the only solution of its law's conditions. The pairs that a call accepts all pass, and so each of them is from a state
-- that passes.
use Prim.Native.Nat.{ℕ, ◌+◌, ◌<◌}
use mathlib.Core.Path.{◌≡◌, refl, sym, ap, subst, ◌∙◌}
use mathlib.Core.List.{List, [], ◌∷◌, ◌++◌, map}
use native.Mathlib.Omega.{arith}
use lib.ListN.{length, take}
use Rattle.refusals.specs.Table.{NoneApplies}
use Rattle.pair.specs.declared.Pair.{Pair}
use Rattle.pair.specs.Pairs.{pair_of, pair_length, pair_refusals}
use Rattle.row.specs.declared.Row.{Row}
use Rattle.row.specs.Rows.{row_of, row_length}
use Rattle.sheet.specs.declared.Sheet.{Sheet}
use Rattle.sheet.specs.Sheets.{sheet_of}
use Rattle.sheet.specs.Sound.{SheetSound}
use Rattle.response.specs.Solved.{Solved}
use Rattle.rod.specs.declared.Rod.{Rod}
use Rattle.rod.specs.declared.step.Advance.{Advance}
use Rattle.state.specs.States.{state_of}
use Rattle.rod.specs.Steps.{trial_of, outcome_after, advance_of, step_refusals}
use Rattle.rod.specs.Accepted.{Accepted}
use Rattle.rod.proofs.PairSolved.{pair_solved, pair_one_limit, pair_shows}
use Rattle.rod.proofs.PlasticStrain.{plastic_changes, unused_plastic}
use Rattle.carry.specs.Walk.{pair_table, last_rod, rows_of, History}
use Rattle.carry.proofs.PairAnswers.{pair_passed}
use Rattle.carry.proofs.Histories.{last_append, rows_append, history_same}
use Rattle.judge.specs.Standing.{standing_refusals}
use Rattle.tie_rod.specs.Calls.{Call, pieces, piece_at, call_leaves}
use Rattle.tie_rod.proofs.PieceLaws.{pieces_then}
use Rattle.trial.specs.Trials.{Trial, as_single, trial_leaves, keep_leaves}
use Rattle.demands.specs.Lists.{accepted_in, state_in, row_in, tried_in}
use Rattle.demands.specs.Demands.{PairSolved, SolvedAt, EachSolved, TrialSolved, RangeDecided, SolvedFrom}
use Rattle.demands.proofs.Splits.{split_next, map_append, history_passes, last_pair}
use Rattle.demands.proofs.Accepted.{rod_passes, upto, starts_rod, ends_rod, standing_at}
use Rattle.demands.proofs.TrialAnswers.{kept_own}
use Rattle.demands.proofs.Singles.{single_accepted, single_pair, single_after}

-- ---- One pair

module _ {h : Sheet} (sound : SheetSound h) where
  outcome_solved : (r : Rod) (p : Pair) → Accepted h r
      → Solved h sound h.law (trial_of h r p) r.first.0 r.second.0 (outcome_after h r p)
  outcome_solved r p a = pair_solved (record { sound = sound; in_range = a.in_range; counted = a.counted; belongs = a.belongs }) p

  solved : (r : Rod) (p : Pair) → Accepted h r → PairSolved h sound r p (advance_of h r p).rod (advance_of h r p).row
  unfolding advance_of
  solved r p a =
      record {
        outcome = outcome_after h r p;
        solved = outcome_solved r p a;
        next_is = refl;
        row_is = refl;
        plastic = plastic_changes h r p (outcome_after h r p).stress;
        row_plastic = refl;
        shown = pair_shows a p;
      }

  -- 10 is decided over the same outcome, whatever the pair.
  range_decided : (r : Rod) (pair : List ℕ) → Accepted h r → RangeDecided h sound r pair
  unfolding pair_table pair_refusals step_refusals
  range_decided r pair a =
      record {
        outcome = outcome_after h r (pair_of pair);
        solved = outcome_solved r (pair_of pair) a;
        before = take 2 (pair_table h r pair);
        line = refl;
      }

-- ---- Each pair of a call

module _ (sheet state : List ℕ) (standing : NoneApplies (standing_refusals sheet state)) (c : Call) (sound : SheetSound (sheet_of sheet)) where
  abbrev h : Sheet
  h = sheet_of sheet

  abbrev r : Rod
  r = state_of state

  abbrev written : List ℕ
  written = (call_leaves sheet state c).rows

  -- Pair j is the last of a history of j + 1 pairs; the state before it is the one that the first j left.
  one_solved : (j : ℕ) → j < accepted_in sheet state c → SolvedAt sheet sound state c j
  unfolding last_rod
  one_solved j few =
      let u = upto sheet state standing c (j + 1) (omega arith) in
      let v = upto sheet state standing c j (omega arith) in
      let pair = piece_at pair_length j c.pairs in
      let l = last_pair h r (pieces pair_length j c.pairs) pair u.advances (subst (λ (p : List (List ℕ)). History h r p u.advances) (pieces_then pair_length j c.pairs) u.history) in
      let same : v.advances ≡ l.before = history_same h r (pieces pair_length j c.pairs) v.advances l.before v.history l.history in
      let q = last_rod r l.before in
      let now : state_of (state_in sheet state c j) ≡ q = v.rod_is ∙ ap (last_rod r) same in
      let is = (pair_passed h q pair l.accepted).is in
      let next : state_of (state_in sheet state c (j + 1)) ≡ (advance_of h q (pair_of pair)).rod =
      u.rod_is ∙ ap (last_rod r) l.apart ∙ last_append r l.before (l.last ∷ []) ∙ ap (λ (a : Advance). a.rod) is in
      let rows : map row_of (pieces row_length j written) ++ (row_of (piece_at row_length j written) ∷ []) ≡ rows_of l.before ++ (l.last.row ∷ []) =
      sym (map_append row_of (pieces row_length j written) (piece_at row_length j written ∷ [])) ∙ ap (map row_of) (sym (pieces_then row_length j written))
      ∙ u.rows ∙ ap rows_of l.apart ∙ rows_append l.before (l.last ∷ []) in
      let long : length (map row_of (pieces row_length j written)) ≡ length (rows_of l.before) = ap length v.rows ∙ ap (λ (a : List Advance). length (rows_of a)) same in
      let row : row_of (piece_at row_length j written) ≡ (advance_of h q (pair_of pair)).row =
      split_next (map row_of (pieces row_length j written)) (rows_of l.before) (row_of (piece_at row_length j written)) l.last.row [] [] long rows ∙ ap (λ (a : Advance). a.row) is in
      let passes = history_passes h r (pieces pair_length j c.pairs) l.before (rod_passes sheet state standing) l.history in
      subst (λ (t : Rod × Rod × Row). PairSolved h sound t.0 (pair_of pair) t.1 t.2)
      (λ i. (sym now i, sym next i, sym row i)) (solved sound q (pair_of pair) passes.accepted)

  pub each_solved : EachSolved sheet sound state c
  each_solved =
      record {
        each = one_solved;
        starts = starts_rod sheet state standing c;
        passing = standing_at sheet state standing c;
        ends = ends_rod sheet state standing c;
      }

-- ---- A trial, and its keeping

module _ (sheet state : List ℕ) (standing : NoneApplies (standing_refusals sheet state)) (sound : SheetSound (sheet_of sheet)) (t : Trial) where
  -- An accepted trial is a single pair, whose first pair is its only one.
  pub trial_solved : (tried_in sheet state t).reply.number ≡ 0 → TrialSolved sheet sound state t (tried_in sheet state t).next
  unfolding trial_leaves
  trial_solved none =
      let solves = each_solved sheet state standing (as_single t) sound in
      let one = single_accepted sheet state t.pair t.row t.next none in
      let next : state_of (state_in sheet state (as_single t) 1) ≡ state_of (call_leaves sheet state (as_single t)).next =
      ap (λ (n : ℕ). state_of (state_in sheet state (as_single t) n)) (sym one) ∙ solves.ends ∙ ap state_of (single_after sheet state t.pair t.row t.next none) in
      subst (λ (x : Rod × List ℕ × Rod). PairSolved (sheet_of sheet) sound x.0 (pair_of x.1) x.2 (row_in (call_leaves sheet state (as_single t))))
      (λ i. (solves.starts i, single_pair sheet state t.pair t.row t.next none i, next i)) (solves.each 0 (omega (arith, one)))

  keeping_solved : (offered next : List ℕ) → (keep_leaves (trial_leaves sheet state t).bytes offered next).number ≡ 0
      → TrialSolved sheet sound state t (keep_leaves (trial_leaves sheet state t).bytes offered next).next
  keeping_solved offered next e =
      let keeps = kept_own sheet state t offered next e in
      subst (TrialSolved sheet sound state t) (sym keeps.is) (trial_solved keeps.none)

-- ---- The theorem

pub all_solved : (sheet state : List ℕ) → NoneApplies (standing_refusals sheet state)
    → (sound : SheetSound (sheet_of sheet)) × SolvedFrom sheet state sound
all_solved sheet state standing =
    let passes = rod_passes sheet state standing in
    let sound = passes.accepted.sound in (
      sound,
      record {
        calls = λ c. each_solved sheet state standing c sound;
        trials = trial_solved sheet state standing sound;
        keepings = keeping_solved sheet state standing sound;
        range = λ pair. range_decided sound (state_of state) pair passes.accepted;
        one_limit = pair_one_limit passes.accepted;
        unused = unused_plastic (sheet_of sheet);
      },
    )
