-- The tally over the members is what a section answers, and each member's next is what it is afterwards (SPEC 15.7). Assumes nothing.
use Prim.Native.Nat.{ℕ, suc, ◌+◌, ◌≤◌, ◌<◌}
use mathlib.Core.Path.{◌≡◌, refl, sym, ap, subst, ◌∙◌}
use mathlib.Core.Bool.{Bool, true, false, not, ◌&&◌, cond, true≢false}
use mathlib.Core.List.{List, [], ◌∷◌, ◌++◌, map}
use borrow.Author.Tests.{ne_eqb}
use native.Mathlib.Omega.{arith}
use lib.Dec.{eqb}
use lib.IntN.{ℤ, pos, nat_abs, ◌+ℤ◌, +ℤ_assoc, +ℤ_idl, +ℤ_idr}
use lib.ListN.{length, length-append}
use Rattle.std.specs.Prelude.{Result, Ok, Err, IfOk}
use Rattle.refusals.specs.declared.Reason.{Reason}
use Rattle.refusals.specs.Reasons.{number_of}
use Rattle.refusals.proofs.ReasonLaws.{reason_numbered}
use Rattle.refusals.specs.Table.{Answer, passes, refused, refusal, first_of}
use Rattle.refusals.proofs.FirstLaws.{Numbered, both_hold, stops_first, goes_on}
use Rattle.units.proofs.Magnitudes.{magnitude_sum}
use Rattle.sheet.specs.declared.Sheet.{Sheet}
use Rattle.sheet.specs.Sheets.{sheet_refusals, sheet_of}
use Rattle.rod.specs.declared.step.Advance.{Advance}
use Rattle.section.specs.declared.Member.{Member}
use Rattle.section.specs.declared.Change.{Change}
use Rattle.section.specs.declared.Movement.{Movement}
use Rattle.section.specs.Sections.{member_right, all_right, call_right, section_refusals, member_answer, force_of, moment_of, most_force, most_moment, Move, move_of, Moves, all, stopped, moves_on, moves_from, sum, section_left, turned_away, settled, section_by, section_leaves}
use Rattle.section.specs.Tallies.{Tally, bare_tally, added_to, counted, sections_own, tally_of, tally_all, next_by, next_of, next_all, settled_after, reply_of, Room, GoesOn, open_refusals, start_by, start_of, Opened}
use Rattle.section.proofs.MemberLaws.{force_most, force_magnitude, moment_most, moment_magnitude, next_stress_most}
use Rattle.section.proofs.MovesLaws.{same_all, Pass, moves_of, pass_move, all_pass, one_stopped}
use Rattle.section.proofs.Numbers.{lines_numbered, member_numbered}

-- ---- Room

-- Room for more is room for fewer.
pub fewer : (t : Tally) (n k : ℕ) → k ≤ n → GoesOn n t → GoesOn k t
fewer t n k less ready e =
    let room = ready e in record { seen = omega (arith, room.seen, less); force = room.force; moment = room.moment }

room_added : (t : Tally) (m : Member) (stress : ℤ) (n : ℕ) → Room (suc n) t → nat_abs (force_of m stress) ≤ most_force → nat_abs (moment_of m stress) ≤ most_moment
    → Room n (added_to t m stress)
room_added t m stress n room force moment =
    record {
      seen = omega (arith, room.seen);
      force = omega (arith, magnitude_sum t.force (force_of m stress), room.force, force);
      moment = omega (arith, magnitude_sum t.moment (moment_of m stress), room.moment, moment);
    }

pub ready_step : (x : Movement) (t : Tally) (m : Member) (n : ℕ) → GoesOn (suc n) t → GoesOn n (tally_of x t m)
unfolding tally_of sections_own
ready_step x t m n ready = by_own (sections_own t) refl
  where
    by_answer : (a : Answer Advance) → member_answer x.material.now.sheet x.change m ≡ a → member_right m ≡ true → sections_own t ≡ false → GoesOn n (counted t m a)
    by_answer (passes a) e right goes done =
        let room = ready goes in
        let stress = a.rod.stress.0 in
        let most = next_stress_most x.material.now.sheet x.change m x.material.now.sound e in
        let force : nat_abs (force_of m stress) ≤ most_force = omega (arith, force_magnitude m stress right most, force_most m stress right most) in
        let moment : nat_abs (moment_of m stress) ≤ most_moment = omega (arith, moment_magnitude m stress right most, moment_most m stress right most) in
        room_added t m stress n room force moment
    by_answer (refused number) e right goes done =
        let room = ready goes in record { seen = omega (arith, room.seen); force = omega arith; moment = omega arith }

    by_number : (b : Bool) → member_right m ≡ true → sections_own t ≡ false → GoesOn n (cond b (counted t m (member_answer x.material.now.sheet x.change m)) t)
    by_number true right goes = by_answer (member_answer x.material.now.sheet x.change m) refl right goes
    by_number false right goes = fewer t (suc n) n (omega arith) ready

    by_right : (b : Bool) → member_right m ≡ b → sections_own t ≡ false → GoesOn n (cond (not b) (bare_tally 14 0) (cond (eqb t.number 0) (counted t m (member_answer x.material.now.sheet x.change m)) t))
    by_right true right goes = by_number (eqb t.number 0) right goes
    by_right false wrong goes = λ e. absurd (true≢false e)

    by_own : (b : Bool) → sections_own t ≡ b → GoesOn n (cond b t (cond (not (member_right m)) (bare_tally 14 0) (cond (eqb t.number 0) (counted t m (member_answer x.material.now.sheet x.change m)) t)))
    by_own true own = fewer t (suc n) n (omega arith) ready
    by_own false goes = by_right (member_right m) refl goes

-- ---- The order of the numbers

-- A number of the section's own stands.
stands : (x : Movement) (n : ℕ) (ms : List Member) → (n ≡ 0 → ⊥) → tally_all x (bare_tally n 0) ms ≡ bare_tally n 0
unfolding tally_all tally_of sections_own
stands x n [] some = refl
stands x n (m ∷ ms) some = rw (ne_eqb n 0 some) (stands x n ms some)

-- A rod's own gives way to 14 alone.
waits : (x : Movement) (n place : ℕ) (ms : List Member) → (n ≡ 0 → ⊥) → tally_all x (bare_tally n (suc place)) ms ≡ cond (all_right ms) (bare_tally n (suc place)) (bare_tally 14 0)
unfolding tally_all tally_of sections_own all_right
waits x n place [] some = refl
waits x n place (m ∷ ms) some = by_right (member_right m) (waits x n place ms some)
  where
    by_right : (b : Bool) → tally_all x (bare_tally n (suc place)) ms ≡ cond (all_right ms) (bare_tally n (suc place)) (bare_tally 14 0)
        → tally_all x (cond (not (eqb n 0) && eqb (suc place) 0) (bare_tally n (suc place)) (cond (not b) (bare_tally 14 0) (cond (eqb n 0) (counted (bare_tally n (suc place)) m (member_answer x.material.now.sheet x.change m)) (bare_tally n (suc place))))) ms
        ≡ cond (b && all_right ms) (bare_tally n (suc place)) (bare_tally 14 0)
    by_right true behind = rw (ne_eqb n 0 some, ne_eqb (suc place) 0 (λ e. omega (arith, e))) behind
    by_right false behind = rw (ne_eqb n 0 some, ne_eqb (suc place) 0 (λ e. omega (arith, e))) (stands x 14 ms (λ e. omega (arith, e)))

-- What the members come to, with what was tallied before them.
abbrev forces : List Move → ℤ
forces moves = sum (map (λ (v : Move). v.force) moves)

abbrev moments : List Move → ℤ
moments moves = sum (map (λ (v : Move). v.moment) moves)

abbrev so_far : (force moment : ℤ) (seen : ℕ) → Tally
so_far force moment seen = record { number = 0; place = 0; force = force; moment = moment; seen = seen }

abbrev tallied : (force moment : ℤ) (seen : ℕ) → Moves → Tally
tallied force moment seen (all moves) = so_far (force +ℤ forces moves) (moment +ℤ moments moves) (seen + length moves)
tallied force moment seen (stopped number place) = bare_tally number place

module _ (x : Movement) where
  abbrev answer : Member → Answer Advance
  answer m = member_answer x.material.now.sheet x.change m

  abbrev moves : (place : ℕ) → List Member → Moves
  moves place ms = moves_from x.material.now.sheet x.change place ms

  -- The tally of all is that of the moves, and 14 where a member isn't right.
  tallies : (ms : List Member) (force moment : ℤ) (seen : ℕ)
      → tally_all x (so_far force moment seen) ms ≡ cond (all_right ms) (tallied force moment seen (moves (seen + 1) ms)) (bare_tally 14 0)
  unfolding tally_all tally_of sections_own all_right moves_from sum
  tallies [] force moment seen =
      let f = sym (+ℤ_idr force) in
      let m = sym (+ℤ_idr moment) in
      let s : seen ≡ seen + 0 = omega arith in
      λ i. so_far (f i) (m i) (s i)
  tallies (m ∷ ms) force moment seen =
      by_right (member_right m) (answer m) refl (λ f k n. tallies ms f k n)
    where
      -- one move more in front
      one_more : (a : Advance) (v : Moves) → tallied (force +ℤ force_of m a.rod.stress.0) (moment +ℤ moment_of m a.rod.stress.0) (seen + 1) v
          ≡ tallied force moment seen (moves_on m (seen + 1) (passes a) v)
      one_more a (all vs) =
          let stress = a.rod.stress.0 in
          let f = +ℤ_assoc force (force_of m stress) (forces vs) in
          let k = +ℤ_assoc moment (moment_of m stress) (moments vs) in
          let s : seen + 1 + length vs ≡ seen + suc (length vs) = omega arith in
          λ i. so_far (f i) (k i) (s i)
      one_more a (stopped number place) = refl

      by_answer : (a : Answer Advance) → answer m ≡ a
          → ((f k : ℤ) (n : ℕ) → tally_all x (so_far f k n) ms ≡ cond (all_right ms) (tallied f k n (moves (n + 1) ms)) (bare_tally 14 0))
          → tally_all x (counted (so_far force moment seen) m a) ms ≡ cond (all_right ms) (tallied force moment seen (moves_on m (seen + 1) a (moves (seen + 1 + 1) ms))) (bare_tally 14 0)
      by_answer (passes a) e behind =
          behind (force +ℤ force_of m a.rod.stress.0) (moment +ℤ moment_of m a.rod.stress.0) (seen + 1)
          ∙ ap (λ (t : Tally). cond (all_right ms) t (bare_tally 14 0)) (one_more a (moves (seen + 1 + 1) ms))
      by_answer (refused n) e behind =
          let place : seen + 1 ≡ suc seen = omega arith in
          subst (λ (p : ℕ). tally_all x (bare_tally n p) ms ≡ cond (all_right ms) (bare_tally n p) (bare_tally 14 0)) (sym place)
          (waits x n seen ms (member_numbered x.material.now.sheet x.change m e).0)

      by_right : (b : Bool) (a : Answer Advance) → answer m ≡ a
          → ((f k : ℤ) (n : ℕ) → tally_all x (so_far f k n) ms ≡ cond (all_right ms) (tallied f k n (moves (n + 1) ms)) (bare_tally 14 0))
          → tally_all x (cond (not b) (bare_tally 14 0) (counted (so_far force moment seen) m a)) ms
          ≡ cond (b && all_right ms) (tallied force moment seen (moves_on m (seen + 1) a (moves (seen + 1 + 1) ms))) (bare_tally 14 0)
      by_right true a e behind = by_answer a e behind
      by_right false a e behind = stands x 14 ms (λ z. omega (arith, z))

  -- Where every member passes, each one's next is what it moves to.
  nexts : (ms : List Member) (advances : List Advance) → all_right ms ≡ true → Pass x.material.now.sheet x.change ms advances
      → next_all x ms ≡ map (λ (v : Move). v.to) (moves_of x.material.now.sheet x.change ms advances)
  unfolding all_right next_of
  nexts [] advances right pass = refl
  nexts (m ∷ ms) [] right pass = absurd pass
  nexts (m ∷ ms) (a ∷ advances) right (e, pass) =
      let both = both_hold (member_right m) (all_right ms) right in
      let first : cond (member_right m) (next_by m (answer m)) m ≡ (move_of m a).to = rw (both.0, e) in
      λ i. first i ∷ nexts ms advances both.1 pass i

-- A refused member has a number, and its place isn't past the members.
pub record StoppedAt (place members n p : ℕ) : Type 0 where
  pub numbered : Numbered n
  pub most : p < place + members

pub stopped_at : (h : Sheet) (c : Change) (place : ℕ) (ms : List Member) {n p : ℕ} → moves_from h c place ms ≡ stopped n p → StoppedAt place (length ms) n p
stopped_at h c place ms e =
    let one = one_stopped h c place ms e in
    let long = ap (λ (l : List Member). length l) one.in_order ∙ length-append one.before (one.member ∷ one.behind) in
    record { numbered = member_numbered h c one.member one.refuses; most = omega (arith, one.at, long) }

-- ---- The whole

-- The sheet's lines decide, and 14 below them.
abbrev below : Answer Sheet → (t : Bool) → Answer Sheet → Answer Sheet
below (refused n) t passed = refused n
below (passes h) t passed = cond t (refused 14) passed

lines_are : (sheet : List ℕ) (t : Bool)
    → first_of (sheet_refusals sheet ++ (refusal 14 t ∷ [])) (sheet_of sheet) ≡ below (first_of (sheet_refusals sheet) (sheet_of sheet)) t (passes (sheet_of sheet))
unfolding first_of
lines_are sheet t = by_sheet (first_of (sheet_refusals sheet) (sheet_of sheet)) refl
  where
    by_sheet : (q : Answer Sheet) → first_of (sheet_refusals sheet) (sheet_of sheet) ≡ q
        → first_of (sheet_refusals sheet ++ (refusal 14 t ∷ [])) (sheet_of sheet) ≡ below q t (passes (sheet_of sheet))
    by_sheet (refused n) e = stops_first (sheet_refusals sheet) (refusal 14 t ∷ []) (sheet_of sheet) (sheet_of sheet) n e
    by_sheet (passes h) e = goes_on (sheet_refusals sheet) (refusal 14 t ∷ []) (sheet_of sheet) (sheet_of sheet) e

-- Where the call stops before the first member.
pub section_stops : (sheet : List ℕ) (c : Change) (ms : List Member) (r : Reason) → Opened sheet (length ms) c (Err r)
    → section_left (reply_of (bare_tally (number_of r) 0)) ms ≡ section_leaves sheet c ms
unfolding section_leaves section_refusals open_refusals
section_stops sheet c ms r opened =
    by_sheet (first_of (sheet_refusals sheet) (sheet_of sheet)) (call_right (length ms) c)
    (ap (λ (t : Tally). t.number) opened.start ∙ ap (λ (q : Answer Sheet). (start_by q).number) (lines_are sheet (not (call_right (length ms) c))))
    ∙ ap (λ (q : Answer Sheet). section_by q c ms) (sym (lines_are sheet (not (call_right (length ms) c && all_right ms))))
  where
    by_sheet : (q : Answer Sheet) (b : Bool) → number_of r ≡ (start_by (below q (not b) (passes (sheet_of sheet)))).number
        → section_left (reply_of (bare_tally (number_of r) 0)) ms ≡ section_by (below q (not (b && all_right ms)) (passes (sheet_of sheet))) c ms
    by_sheet (refused n) b is = ap (λ (k : ℕ). turned_away k 0 ms) is
    by_sheet (passes h) false is = ap (λ (k : ℕ). turned_away k 0 ms) is
    by_sheet (passes h) true is = absurd ((reason_numbered r).0 is)

-- Where it goes on, what the tally and the members after it come to.
module _ (sheet : List ℕ) (c : Change) (ms after : List Member) (x : Movement) (t : Tally) (opened : Opened sheet (length ms) c (Ok x))
    (tally : t ≡ tally_all x (bare_tally 0 0) ms) (moved : after ≡ settled_after x (bare_tally 0 0) ms) where
  -- A tally that ended with a number leaves the members as they were.
  refused_is : (n p : ℕ) → (n ≡ 0 → ⊥) → tally_all x (bare_tally 0 0) ms ≡ bare_tally n p → section_left (reply_of t) after ≡ turned_away n p ms
  unfolding settled_after
  refused_is n p some is =
      let reply = ap reply_of (tally ∙ is) in
      let kept : after ≡ ms = moved ∙ ap (λ (y : Tally). cond (eqb y.number 0) (next_all x ms) ms) is ∙ rw (ne_eqb n 0 some) in
      λ i. section_left (reply i) (kept i)

  by_moves : (v : Moves) → moves_from x.material.now.sheet x.change 1 ms ≡ v → all_right ms ≡ true
      → tally_all x (bare_tally 0 0) ms ≡ tallied (pos 0) (pos 0) 0 v → section_left (reply_of t) after ≡ settled v ms
  unfolding settled_after
  by_moves (stopped n p) e right all_are = refused_is n p (stopped_at x.material.now.sheet x.change 1 ms e).numbered.0 all_are
  by_moves (all vs) e right all_are =
      let force = +ℤ_idl (forces vs) in
      let moment = +ℤ_idl (moments vs) in
      let reply = ap reply_of (tally ∙ all_are) in
      let passing = all_pass x.material.now.sheet x.change 1 ms e in
      let same = same_all (sym (pass_move x.material.now.sheet x.change 1 ms passing.advances passing.pass) ∙ e) in
      let members : after ≡ map (λ (v : Move). v.to) vs = moved ∙ ap (λ (y : Tally). cond (eqb y.number 0) (next_all x ms) ms) all_are
      ∙ nexts x ms passing.advances right passing.pass ∙ ap (λ (ws : List Move). map (λ (v : Move). v.to) ws) same in
      (λ i. section_left (reply i) (members i)) ∙ (λ i. section_left (record { number = 0; place = 0; force = force i; moment = moment i }) (map (λ (v : Move). v.to) vs))

  by_right : (r : Bool) → all_right ms ≡ r → tally_all x (bare_tally 0 0) ms ≡ cond r (tallied (pos 0) (pos 0) 0 (moves_from x.material.now.sheet x.change 1 ms)) (bare_tally 14 0)
      → section_left (reply_of t) after ≡ section_by (cond (not r) (refused 14) (passes x.material.now.sheet)) x.change ms
  by_right true right all_are = by_moves (moves_from x.material.now.sheet x.change 1 ms) refl right all_are
  by_right false right all_are = refused_is 14 0 (λ e. omega (arith, e)) all_are

  -- The lines before the first member don't apply.
  by_sheet : (q : Answer Sheet) (b : Bool) → 0 ≡ (start_by (below q (not b) (passes (sheet_of sheet)))).number → first_of (open_refusals sheet (length ms) c) (sheet_of sheet) ≡ below q (not b) (passes (sheet_of sheet))
      → section_left (reply_of t) after ≡ section_by (below q (not (b && all_right ms)) (passes (sheet_of sheet))) c ms
  unfolding open_refusals
  by_sheet (refused n) b none e = absurd ((lines_numbered sheet (not (call_right (length ms) c)) (sheet_of sheet) e).0 (sym none))
  by_sheet (passes h) false none e = absurd (omega (arith, none))
  by_sheet (passes h) true none e =
      let right = by_right (all_right ms) refl (tallies x ms (pos 0) (pos 0) 0) in
      right ∙ (λ i. section_by (cond (not (all_right ms)) (refused 14) (passes (opened.movement.0 i))) (opened.movement.1 i) ms)

  -- What the code comes to there is what a section leaves.
  pub section_goes_on : section_left (reply_of t) after ≡ section_leaves sheet c ms
  unfolding section_leaves section_refusals open_refusals
  section_goes_on =
      let lines = lines_are sheet (not (call_right (length ms) c)) in
      by_sheet (first_of (sheet_refusals sheet) (sheet_of sheet)) (call_right (length ms) c)
      (ap (λ (t : Tally). t.number) opened.start ∙ ap (λ (q : Answer Sheet). (start_by q).number) lines) lines
      ∙ ap (λ (q : Answer Sheet). section_by q c ms) (sym (lines_are sheet (not (call_right (length ms) c && all_right ms))))

-- What the code comes to is what a section leaves, whatever it begins with: x is the movement of an opening that has one.
pub section_is : (sheet : List ℕ) (c : Change) (ms after : List Member) (o : Result Movement Reason) (x : Movement) (t : Tally) → Opened sheet (length ms) c o
    → IfOk o (λ y. y ≡ x) → t ≡ tally_all x (start_of o) ms → after ≡ settled_after x (start_of o) ms → section_left (reply_of t) after ≡ section_leaves sheet c ms
unfolding settled_after
section_is sheet c ms after (Ok y) x t opened is tally moved =
    section_goes_on sheet c ms after y t opened
    (tally ∙ ap (λ (z : Movement). tally_all z (bare_tally 0 0) ms) (sym is))
    (moved ∙ ap (λ (z : Movement). settled_after z (bare_tally 0 0) ms) (sym is))
section_is sheet c ms after (Err r) x t opened is tally moved =
    let some = (reason_numbered r).0 in
    let none = stands x (number_of r) ms some in
    let kept : after ≡ ms = moved ∙ ap (λ (y : Tally). cond (eqb y.number 0) (next_all x ms) ms) none ∙ rw (ne_eqb (number_of r) 0 some) in
    let reply = ap reply_of (tally ∙ none) in
    (λ i. section_left (reply i) (kept i)) ∙ section_stops sheet c ms r opened
