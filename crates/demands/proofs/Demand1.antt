-- Demand 1 (SPEC 9.11): a call on any bytes gets the number and the place that its tables give and no others, and leaves both lent buffers
-- as the stage of its refusal says. A table either gives a number or none of its lines applies; pairs either all pass or one is the first
-- that doesn't.
use Prim.Native.Nat.{ℕ, suc, ◌+◌, ◌-◌, ◌*◌, ◌≤◌, ◌<◌}
use mathlib.Core.Path.{◌≡◌, refl, sym, ap, subst, ◌∙◌}
use mathlib.Core.Bool.{false}
use mathlib.Core.List.{List, [], ◌∷◌, ◌++◌}
use mathlib.Core.Logic.{◌⊎◌, inl, inr, ◌↔◌}
use native.Mathlib.Omega.{arith}
use borrow.Author.Tests.{ne_eqb}
use lib.Dec.{eqb}
use lib.ListN.{length, get_or, drop, length-append}
use lib.Seq.{take_at}
use Rattle.refusals.specs.Table.{Answer, passes, refused, first_of, NoneApplies, Given, numbers_of}
use Rattle.refusals.proofs.FirstLaws.{Numbered, number_stands, none_passes, none_split, given_refused, decides, first_follows}
use Rattle.pair.specs.Pairs.{pair_length, pair_refusals, list_refusals}
use Rattle.row.specs.Rows.{row_length}
use Rattle.sheet.specs.declared.Sheet.{Sheet}
use Rattle.sheet.specs.Sheets.{sheet_of, sheet_refusals, sheet_field_refusals}
use Rattle.rod.specs.declared.Rod.{Rod}
use Rattle.rod.specs.declared.step.Advance.{Advance}
use Rattle.state.specs.States.{state_of, state_bytes, state_length, state_refusals, zero_state}
use Rattle.state.specs.States as states
use Rattle.rod.specs.Against.{against_refusals}
use Rattle.rod.specs.Steps.{step_refusals}
use Rattle.rod.specs.Forecast.{forecast_of}
use Rattle.rod.specs.Unused.{unused_of}
use Rattle.state.proofs.RoundTrip.{bytes_again}
use Rattle.carry.specs.Walk.{pair_table, pair_answer, last_rod, rows_of, rows_bytes, History, Walk, walk}
use Rattle.carry.proofs.PairAnswers.{pair_numbered, answer_given, given_answer}
use Rattle.carry.proofs.Histories.{history_long, history_same, bytes_long}
use Rattle.carry.proofs.Walks.{walk_all, walk_until, AllPass, OneFails, ends}
use Rattle.judge.specs.Standing.{Ready, ready_of, standing_refusals}
use Rattle.tie_rod.specs.Calls.{Kind, single, run, Call, pieces, piece_at, count_in, pairs_in, buffer_refusals, length_refusals, call_refusals, Left, left, handed, over, reply_of, part_of, stopped, left_by, call_leaves, tangent_told, forecast_answer, unused_answer, unused_left}
use Rattle.tie_rod.proofs.PieceLaws.{length_pieces, pieces_around}
use Rattle.tie_rod.proofs.Numbers.{standing_numbers, call_numbers}
use Rattle.tie_rod.proofs.CallLaws.{lengths_pass, handed_whole, never_handed, standing_stops, call_stops, call_walked}
use Rattle.grade.specs.Grades.{Grading}
use Rattle.section.specs.declared.Member.{Member}
use Rattle.section.specs.declared.Change.{Change}
use Rattle.demands.specs.Lists.{accepted_by, accepted_in}
use Rattle.demands.specs.Gradings.{GradingAnswered}
use Rattle.demands.specs.Sections.{SectionAnswered}
use Rattle.demands.specs.Demands.{Accepts, Reason, Untouched, Written, CallAnswered, Answered}
use Rattle.demands.proofs.Withdrawn.{not_withdrawn}
use Rattle.demands.proofs.Splits.{split_front, split_next}
use Rattle.demands.proofs.TrialAnswers.{trial_answered, keeping_answered, anything_offered}

module _ (sheet state : List ℕ) (c : Call) where
  abbrev h : Sheet
  h = sheet_of sheet

  abbrev r : Rod
  r = state_of state

  abbrev ready : Ready
  ready = ready_of sheet state

  abbrev leaves : Left
  leaves = call_leaves sheet state c

  -- ---- The three stages

  -- What a call leaves whose sheet or state is refused,
  pub when_standing : {n : ℕ} → Given (standing_refusals sheet state) n → leaves ≡ stopped n zero_state c
  when_standing g = standing_stops sheet state c (given_refused (standing_refusals sheet state) ready g)

  -- that is refused itself,
  pub when_call : {n : ℕ} → NoneApplies (standing_refusals sheet state) → Given (call_refusals c) n → leaves ≡ stopped n state c
  when_call none g = call_stops sheet state c (none_passes (standing_refusals sheet state) ready none) (given_refused (call_refusals c) ready g)

  -- No line of these tables has number 0.
  abbrev Some : ℕ → Type 0
  Some n = n ≡ 0 → ⊥

  pub standing_number : {n : ℕ} → Given (standing_refusals sheet state) n → Some n
  standing_number g =
      (number_stands Numbered (standing_refusals sheet state) ready (standing_numbers sheet state) (given_refused (standing_refusals sheet state) ready g)).0

  pub call_number : {n : ℕ} → Given (call_refusals c) n → Some n
  call_number g =
      (number_stands Numbered (call_refusals c) ready (call_numbers c.kind (length c.pairs) (length c.rows) (length c.next))
      (given_refused (call_refusals c) ready g)).0

  -- and one whose pairs were walked.
  abbrev pub went_to : Walk → Left
  went_to w = left (reply_of w) (over (rows_bytes (rows_of w.advances)) c.rows) (handed (state_bytes (last_rod r w.advances)) c.next)

  pub when_walked : NoneApplies (standing_refusals sheet state) → NoneApplies (call_refusals c) → leaves ≡ went_to (walk h r (pairs_in c.pairs))
  when_walked none own = call_walked sheet state c (none_passes (standing_refusals sheet state) ready none) (none_passes (call_refusals c) ready own)

  -- All pairs pass,
  pub when_all : NoneApplies (standing_refusals sheet state) → NoneApplies (call_refusals c) → (advances : List Advance)
      → History h r (pairs_in c.pairs) advances → leaves ≡ went_to (record { advances = advances; number = 0 })
  when_all none own advances e = when_walked none own ∙ ap went_to (walk_all h r (pairs_in c.pairs) advances e)

  -- or one is the first that doesn't.
  pub record Fails (m n : ℕ) : Type 0 where
    pub few : m < count_in c.pairs
    pub advances : List Advance
    pub history : History h r (pieces pair_length m c.pairs) advances
    pub refuses : pair_answer h (last_rod r advances) (piece_at pair_length m c.pairs) ≡ refused n

  pub when_until : {m n : ℕ} → NoneApplies (standing_refusals sheet state) → NoneApplies (call_refusals c) → (f : Fails m n)
      → leaves ≡ went_to (record { advances = f.advances; number = n })
  when_until {m} none own f =
      when_walked none own
      ∙ ap (λ (l : List (List ℕ)). went_to (walk h r l)) (pieces_around pair_length m (count_in c.pairs) c.pairs f.few)
      ∙ ap went_to (walk_until h r (pieces pair_length m c.pairs) f.advances (piece_at pair_length m c.pairs) _ f.history f.refuses)

  -- One of the two is so.
  abbrev pub Ends : Type 0
  Ends = AllPass h r (pairs_in c.pairs) ⊎ ((m : ℕ) × (n : ℕ) × Fails m n)

  pub pairs_end : Ends
  pairs_end = by_end (ends h r (pairs_in c.pairs))
    where
      by_end : AllPass h r (pairs_in c.pairs) ⊎ OneFails h r (pairs_in c.pairs) → Ends
      by_end (inl all) = inl all
      by_end (inr one) =
          let m = length one.before in
          let count = count_in c.pairs in
          let long : count ≡ m + suc (length one.behind) =
          sym (length_pieces pair_length count c.pairs) ∙ ap length one.apart ∙ length-append one.before (one.pair ∷ one.behind) in
          let few : m < count = omega (arith, long) in
          let same = sym one.apart ∙ pieces_around pair_length m count c.pairs few in
          let behind = pieces pair_length (count - (m + 1)) (drop pair_length (drop (pair_length * m) c.pairs)) in
          let as_long = sym (length_pieces pair_length m c.pairs) in
          let front = split_front one.before (pieces pair_length m c.pairs) one.pair (piece_at pair_length m c.pairs) one.behind behind as_long same in
          let next = split_next one.before (pieces pair_length m c.pairs) one.pair (piece_at pair_length m c.pairs) one.behind behind as_long same in
          inr (
            m,
            one.number,
            record {
              few = few;
              advances = one.advances;
              history = subst (λ (l : List (List ℕ)). History h r l one.advances) front one.history;
              refuses = ap (pair_answer h (last_rod r one.advances)) (sym next) ∙ one.refuses;
            },
          )

  -- ---- How many pairs were accepted, read off number and place

  counted : (m : ℕ) (advances : List Advance) → History h r (pieces pair_length m c.pairs) advances → length advances ≡ m
  counted m advances e = history_long h r (pieces pair_length m c.pairs) advances e ∙ length_pieces pair_length m c.pairs

  accepted_of : {l : Left} → leaves ≡ l → accepted_in sheet state c ≡ accepted_by l.reply.number l.reply.place (count_in c.pairs)
  unfolding accepted_in
  accepted_of e = ap (λ (l : Left). accepted_by l.reply.number l.reply.place (count_in c.pairs)) e

  some_number : {m n : ℕ} (f : Fails m n) → eqb n 0 ≡ false
  some_number {m} {n} f = ne_eqb n 0 (pair_numbered h (last_rod r f.advances) (piece_at pair_length m c.pairs) f.refuses).0

  pub accepted_until : {m n : ℕ} → NoneApplies (standing_refusals sheet state) → NoneApplies (call_refusals c) → Fails m n → accepted_in sheet state c ≡ m
  accepted_until {m} {n} none own f =
      accepted_of (when_until none own f)
      ∙ rw (some_number f) (omega (arith, counted m f.advances f.history))

  -- No more than there are.
  pub accepted_most : NoneApplies (standing_refusals sheet state) → NoneApplies (call_refusals c) → accepted_in sheet state c ≤ count_in c.pairs
  accepted_most none own = by_end pairs_end
    where
      by_end : Ends → accepted_in sheet state c ≤ count_in c.pairs
      by_end (inl all) = omega (arith, accepted_of (when_all none own all.advances all.history))
      by_end (inr (m, n, f)) = omega (arith, accepted_until none own f, f.few)

  -- Where a call is refused before its pairs, none was.
  pub accepted_none : {n : ℕ} (back : List ℕ) → (n ≡ 0 → ⊥) → leaves ≡ stopped n back c → accepted_in sheet state c ≡ 0
  accepted_none {n} back some e = accepted_of e ∙ rw (ne_eqb n 0 some)

  pub accepts : NoneApplies (standing_refusals sheet state) → NoneApplies (call_refusals c) → Accepts sheet state c (accepted_in sheet state c)
  accepts none own = by_end pairs_end
    where
      by_end : Ends → Accepts sheet state c (accepted_in sheet state c)
      by_end (inl all) =
          subst (Accepts sheet state c) (sym (accepted_of (when_all none own all.advances all.history)))
          (record { standing = none; own = own; advances = all.advances; history = all.history })
      by_end (inr (m, n, f)) =
          subst (Accepts sheet state c) (sym (accepted_until none own f))
          (record { standing = none; own = own; advances = f.advances; history = f.history })

  -- What the answer tells of it is the same.
  told : leaves.reply.accepted ≡ accepted_in sheet state c
  told = by_standing (decides (standing_refusals sheet state))
    where
      told_alike : {l : Left} → leaves ≡ l → leaves.reply.accepted ≡ l.reply.accepted
      told_alike e = ap (λ (l : Left). l.reply.accepted) e

      by_end : NoneApplies (standing_refusals sheet state) → NoneApplies (call_refusals c) → Ends → leaves.reply.accepted ≡ accepted_in sheet state c
      by_end none own (inl all) =
          let e = when_all none own all.advances all.history in
          told_alike e ∙ counted (count_in c.pairs) all.advances all.history ∙ sym (accepted_of e)
      by_end none own (inr (m, n, f)) = told_alike (when_until none own f) ∙ counted m f.advances f.history ∙ sym (accepted_until none own f)

      by_call : NoneApplies (standing_refusals sheet state) → ((n : ℕ) × Given (call_refusals c) n) ⊎ NoneApplies (call_refusals c)
          → leaves.reply.accepted ≡ accepted_in sheet state c
      by_call none (inl (n, g)) = let e = when_call none g in told_alike e ∙ sym (accepted_none state (call_number g) e)
      by_call none (inr own) = by_end none own pairs_end

      by_standing : ((n : ℕ) × Given (standing_refusals sheet state) n) ⊎ NoneApplies (standing_refusals sheet state)
          → leaves.reply.accepted ≡ accepted_in sheet state c
      by_standing (inl (n, g)) = let e = when_standing g in told_alike e ∙ sym (accepted_none zero_state (standing_number g) e)
      by_standing (inr none) = by_call none (decides (call_refusals c))

  -- ---- The lent buffers

  untouched : {n : ℕ} {back : List ℕ} → leaves ≡ stopped n back c → Untouched back c leaves
  untouched {n} {back} e =
      record {
        rows = ap (λ (l : Left). l.rows) e;
        part = ap part_of e;
        next = λ long. ap (λ (l : Left). l.next) e ∙ handed_whole back c.next long;
      }

  -- Where 12 doesn't apply, the buffer for the new state has its length.
  pub next_long : NoneApplies (call_refusals c) → length c.next ≡ state_length
  next_long own = (lengths_pass c.kind (length c.pairs) (length c.rows) (length c.next) ready (none_passes (call_refusals c) ready own)).next_long

  pub written_as : {m n : ℕ} (advances : List Advance) → NoneApplies (call_refusals c) → length advances ≡ m
      → leaves ≡ went_to (record { advances = advances; number = n }) → Written r c m advances leaves
  written_as {m} advances own many e =
      let new = rows_bytes (rows_of advances) in
      let long : length new ≡ row_length * m = bytes_long advances ∙ ap (λ (k : ℕ). row_length * k) many in
      record {
        rows = ap (λ (l : Left). l.rows) e ∙ ap (λ (k : ℕ). new ++ drop k c.rows) long;
        part = ap part_of e ∙ take_at new (drop (length new) c.rows) (row_length * length advances) (bytes_long advances);
        next = ap (λ (l : Left). l.next) e ∙ handed_whole (state_bytes (last_rod r advances)) c.next (next_long own);
      }

  -- The pairs that were accepted are walked as any history of them says.
  pub pairs_leave : (a : Accepts sheet state c (accepted_in sheet state c)) → Written r c (accepted_in sheet state c) a.advances leaves
  pairs_leave a = by_end pairs_end
    where
      many : length a.advances ≡ accepted_in sheet state c
      many = counted (accepted_in sheet state c) a.advances a.history

      history_at : {k : ℕ} → accepted_in sheet state c ≡ k → History h r (pieces pair_length k c.pairs) a.advances
      history_at e = subst (λ (j : ℕ). History h r (pieces pair_length j c.pairs) a.advances) e a.history

      by_end : Ends → Written r c (accepted_in sheet state c) a.advances leaves
      by_end (inl all) =
          written_as a.advances a.own many
          (when_all a.standing a.own a.advances (history_at (accepted_of (when_all a.standing a.own all.advances all.history))))
      by_end (inr (k, n, f)) =
          let same : f.advances ≡ a.advances =
          history_same h r (pieces pair_length k c.pairs) f.advances a.advances f.history (history_at (accepted_until a.standing a.own f)) in
          written_as a.advances a.own many
          (subst (λ (l : List Advance). leaves ≡ went_to (record { advances = l; number = n })) same (when_until a.standing a.own f))

  same : Accepts sheet state c 0 → accepted_in sheet state c ≡ 0 → ((i : ℕ) → get_or state i 0 < 256) → leaves.next ≡ state
  unfolding standing_refusals pieces last_rod
  same a nought bytes =
      let all = accepts a.standing a.own in
      let empty : all.advances ≡ [] = no_advances all.advances (counted (accepted_in sheet state c) all.advances all.history ∙ nought) in
      let behind = (none_split (sheet_refusals sheet) (state_refusals state ++ against_refusals h r) a.standing).1 in
      let passed = none_passes (state_refusals state) r (none_split (state_refusals state) (against_refusals h r) behind).0 in
      (pairs_leave all).next ∙ ap (λ (l : List Advance). state_bytes (last_rod r l)) empty ∙ bytes_again state r bytes passed
    where
      no_advances : (l : List Advance) → length l ≡ 0 → l ≡ []
      no_advances [] e = refl
      no_advances (x ∷ l) e = absurd (omega (arith, e))

  never : (length c.next ≡ state_length → ⊥) → leaves.next ≡ c.next
  unfolding call_leaves left_by
  never other = by_stage (first_of (standing_refusals sheet state) ready) (first_of (call_refusals c) ready)
    where
      by_stage : (x y : Answer Ready) → (left_by x y state c).next ≡ c.next
      by_stage (refused n) y = never_handed zero_state c.next other
      by_stage (passes x) (refused n) = never_handed state c.next other
      by_stage (passes x) (passes y) = never_handed (state_bytes (last_rod x.rod (walk x.sheet x.rod (pairs_in c.pairs)).advances)) c.next other

  -- ---- Number and place

  -- There is a reason for the number and the place that a call has,
  own_reason : Reason sheet state c leaves.reply.number leaves.reply.place
  own_reason = by_standing (decides (standing_refusals sheet state))
    where
      place_of : {l : Left} → leaves ≡ l → leaves.reply.place ≡ l.reply.place
      place_of e = ap (λ (l : Left). l.reply.place) e

      number_of : {l : Left} → leaves ≡ l → leaves.reply.number ≡ l.reply.number
      number_of e = ap (λ (l : Left). l.reply.number) e

      by_end : NoneApplies (standing_refusals sheet state) → NoneApplies (call_refusals c) → Ends → Reason sheet state c leaves.reply.number leaves.reply.place
      by_end none own (inl all) =
          let e = when_all none own all.advances all.history in
          inr (inr (inr (record {
            accepts = record { standing = none; own = own; advances = all.advances; history = all.history };
            no_number = number_of e;
            nowhere = place_of e;
          })))
      by_end none own (inr (m, n, f)) =
          let e = when_until none own f in
          inr (inr (inl (record {
            before = m;
            there = f.few;
            accepts = record { standing = none; own = own; advances = f.advances; history = f.history };
            given = subst (Given (pair_table h (last_rod r f.advances) (piece_at pair_length m c.pairs))) (sym (number_of e)) (answer_given h (last_rod r f.advances) (piece_at pair_length m c.pairs) f.refuses);
            at = place_of e ∙ rw (some_number f) (ap (λ (k : ℕ). k + 1) (counted m f.advances f.history));
          })))

      by_call : NoneApplies (standing_refusals sheet state) → ((n : ℕ) × Given (call_refusals c) n) ⊎ NoneApplies (call_refusals c)
          → Reason sheet state c leaves.reply.number leaves.reply.place
      by_call none (inl (n, g)) =
          let e = when_call none g in
          inr (inl (record { standing = none; given = subst (Given (call_refusals c)) (sym (number_of e)) g; nowhere = place_of e }))
      by_call none (inr own) = by_end none own pairs_end

      by_standing : ((n : ℕ) × Given (standing_refusals sheet state) n) ⊎ NoneApplies (standing_refusals sheet state)
          → Reason sheet state c leaves.reply.number leaves.reply.place
      by_standing (inl (n, g)) =
          let e = when_standing g in
          inl (record { given = subst (Given (standing_refusals sheet state)) (sym (number_of e)) g; nowhere = place_of e })
      by_standing (inr none) = by_call none (decides (call_refusals c))

  -- and for no others.
  only_reason : (number place : ℕ) → Reason sheet state c number place → (leaves.reply.number ≡ number) × (leaves.reply.place ≡ place)
  only_reason number place (inl w) = let e = when_standing w.given in (ap (λ (l : Left). l.reply.number) e, ap (λ (l : Left). l.reply.place) e ∙ sym w.nowhere)
  only_reason number place (inr (inl w)) =
      let e = when_call w.standing w.given in
      (ap (λ (l : Left). l.reply.number) e, ap (λ (l : Left). l.reply.place) e ∙ sym w.nowhere)
  only_reason number place (inr (inr (inl w))) =
      let a = w.accepts in
      let f : Fails w.before number =
      record { few = w.there; advances = a.advances; history = a.history; refuses = given_answer h (last_rod r a.advances) (piece_at pair_length w.before c.pairs) w.given } in
      let e = when_until a.standing a.own f in
      let many = counted w.before a.advances a.history in
      (ap (λ (l : Left). l.reply.number) e, ap (λ (l : Left). l.reply.place) e ∙ rw (some_number f) (ap (λ (k : ℕ). k + 1) many) ∙ sym w.at)
  only_reason number place (inr (inr (inr w))) =
      let e = when_all w.accepts.standing w.accepts.own w.accepts.advances w.accepts.history in
      (ap (λ (l : Left). l.reply.number) e ∙ sym w.no_number, ap (λ (l : Left). l.reply.place) e ∙ sym w.nowhere)

  exactly : (number place : ℕ) → ((leaves.reply.number ≡ number) × (leaves.reply.place ≡ place)) ↔ Reason sheet state c number place
  exactly number place =
      (λ is. subst (λ (t : ℕ × ℕ). Reason sheet state c t.0 t.1) (λ i. (is.0 i, is.1 i)) own_reason, only_reason number place)

  order : numbers_of (standing_refusals sheet state ++ call_refusals c) ≡ 1 ∷ 2 ∷ 3 ∷ 13 ∷ 4 ∷ 5 ∷ 6 ∷ 7 ∷ 12 ∷ []
  unfolding standing_refusals sheet_refusals sheet_field_refusals state_refusals states.state_field_refusals against_refusals length_refusals list_refusals buffer_refusals
  order = by_kind c.kind
    where
      by_kind : (k : Kind)
          → numbers_of (standing_refusals sheet state ++ length_refusals k (length c.pairs) (length c.rows) (length c.next)) ≡ 1 ∷ 2 ∷ 3 ∷ 13 ∷ 4 ∷ 5 ∷ 6 ∷ 7 ∷ 12 ∷ []
      by_kind single = refl
      by_kind run = refl

  pair_order : (q : Rod) (pair : List ℕ) → numbers_of (pair_table h q pair) ≡ 8 ∷ 9 ∷ 10 ∷ []
  unfolding pair_table pair_refusals step_refusals
  pair_order q pair = refl

  pub call_answered : CallAnswered sheet state c
  call_answered =
      record {
        order = order;
        pair_order = pair_order;
        exactly = exactly;
        told = told;
        standing_leaves = λ n g. untouched (when_standing g);
        by_call_leaves = λ n w. untouched (when_call w.standing w.given);
        pairs_leave = pairs_leave;
        accepts = accepts;
        same = same;
        never = never;
      }

-- ---- The theorem

module _ (sheet state : List ℕ) where
  forecast_order : numbers_of (standing_refusals sheet state) ≡ 1 ∷ 2 ∷ 3 ∷ 13 ∷ 4 ∷ 5 ∷ 6 ∷ []
  unfolding standing_refusals sheet_refusals sheet_field_refusals state_refusals states.state_field_refusals against_refusals
  forecast_order = refl

  no_tangent : (n : ℕ) → Given (standing_refusals sheet state) n → tangent_told (forecast_answer sheet state) ≡ 0
  unfolding forecast_answer
  no_tangent n g = ap tangent_told (given_refused (standing_refusals sheet state) (forecast_of (sheet_of sheet) (state_of state)) g)

  unused_order : numbers_of (sheet_refusals sheet) ≡ 1 ∷ 2 ∷ 3 ∷ 13 ∷ []
  unfolding sheet_refusals sheet_field_refusals
  unused_order = refl

  no_state : (n : ℕ) → Given (sheet_refusals sheet) n → unused_left (unused_answer sheet) ≡ zero_state
  unfolding unused_answer
  no_state n g = ap unused_left (given_refused (sheet_refusals sheet) (state_bytes (unused_of (sheet_of sheet))) g)

  -- What is claimed of gradings and of sections is shown by GradingAnswers and SectionAnswers, which stand on this file.
  pub all_answered : ((g : Grading) → GradingAnswered sheet state g) → ((c : Change) (members : List Member) → SectionAnswered sheet c members)
      → Answered sheet state
  unfolding forecast_answer unused_answer
  all_answered gradings sections =
      record {
        calls = call_answered sheet state;
        trials = trial_answered sheet state;
        keepings = keeping_answered sheet state;
        anything = λ trial next. anything_offered trial state next;
        gradings = gradings;
        sections = sections;
        forecast_order = forecast_order;
        forecast = first_follows (standing_refusals sheet state) (forecast_of (sheet_of sheet) (state_of state));
        no_tangent = no_tangent;
        unused_order = unused_order;
        unused = first_follows (sheet_refusals sheet) (state_bytes (unused_of (sheet_of sheet)));
        no_state = no_state;
        not_withdrawn = not_withdrawn sheet state;
      }
