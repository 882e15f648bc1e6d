-- How the code comes to what a section leaves: a tally over the members, one after another, and each member's next (SPEC 15.7), cited by
-- this crate's contracts; definitions only, nothing is assumed. proofs/SectionLaws shows that this is `section_leaves`.
use Rattle.std.specs.Prelude.{ℕ, ◌+◌, ◌*◌, ◌≤◌, ◌≡◌, Bool, false, not, ◌&&◌, cond, List, [], ◌∷◌, ◌++◌, map, ℤ, pos, nat_abs, ◌+ℤ◌, eqb, Result, Ok, Err, IfOk}
use Rattle.refusals.specs.declared.Reason.{Reason}
use Rattle.refusals.specs.declared.Refused.{Refused}
use Rattle.refusals.specs.Reasons.{number_of}
use Rattle.refusals.specs.Table.{Refusal, refusal, Answer, passes, refused, first_of}
use Rattle.ranges.specs.Ranges.{most_rods}
use Rattle.sheet.specs.Sheets.{sheet_refusals, sheet_of}
use Rattle.rod.specs.declared.step.Advance.{Advance}
use Rattle.section.specs.declared.Member.{Member}
use Rattle.section.specs.declared.Change.{Change}
use Rattle.section.specs.declared.Movement.{Movement}
use Rattle.section.specs.declared.Sums.{Sums}
pub use Rattle.section.specs.Sections.{ChangeRight}
use Rattle.section.specs.Sections.{SectionReply, call_right, member_right, member_answer, force_of, moment_of, with_state, most_force, most_moment}

-- SPEC 15.7: a tally: number and place of a refusal, or force and moment so far, and how many members there were.
pub record Tally : Type 0 where
  pub number : ℕ
  pub place : ℕ
  pub force : ℤ
  pub moment : ℤ
  pub seen : ℕ

-- SPEC 15.7: a tally without force and moment: a refusal with its place, or, with 0 and 0, where no rod is looked at yet.
abbrev pub bare_tally : (number place : ℕ) → Tally
bare_tally number place = record { number = number; place = place; force = pos 0; moment = pos 0; seen = 0 }

-- SPEC 15.7: the tally that a result of the code stands for: sums, or a refusal.
abbrev pub tally_meaning : Result Sums Refused → Tally
tally_meaning (Ok sums) = record { number = 0; place = 0; force = sums.force; moment = sums.moment; seen = sums.seen }
tally_meaning (Err r) = bare_tally (number_of r.reason) r.place

-- SPEC 15.7: one rod more, which has this stress: its parts are added.
abbrev pub added_to : Tally → Member → (stress : ℤ) → Tally
added_to t m stress =
    record { number = 0; place = 0; force = t.force +ℤ force_of m stress; moment = t.moment +ℤ moment_of m stress; seen = t.seen + 1 }

-- SPEC 15.7: one rod more, by its answer: a refusal ends the sums, with the rod's place.
abbrev pub counted : Tally → Member → Answer Advance → Tally
counted t m (passes a) = added_to t m a.rod.stress.0
counted t m (refused number) = bare_tally number (t.seen + 1)

-- SPEC 15.7: a number of the section's own has no place; no member changes it.
unfoldable pub sections_own : Tally → Bool
sections_own t = not (eqb t.number 0) && eqb t.place 0

-- SPEC 15.7: 14 for a later member goes before the number of a rod seen already.
unfoldable pub tally_of : Movement → Tally → Member → Tally
tally_of x t m =
    cond (sections_own t) t
    (cond (not (member_right m)) (bare_tally 14 0)
    (cond (eqb t.number 0) (counted t m (member_answer x.material.now.sheet x.change m)) t))

-- SPEC 15.7: the same over all members, one after another.
unfoldable pub tally_all : Movement → Tally → List Member → Tally
tally_all x t [] = t
tally_all x t (m ∷ members) = tally_all x (tally_of x t m) members

-- SPEC 15.7: a member by its answer: moved where it passes, and else as it was.
abbrev pub next_by : Member → Answer Advance → Member
next_by m (passes a) = with_state m a.rod
next_by m (refused number) = m

-- SPEC 15.7: a member after the call,
unfoldable pub next_of : Movement → Member → Member
next_of x m = cond (member_right m) (next_by m (member_answer x.material.now.sheet x.change m)) m

-- and all of them.
abbrev pub next_all : Movement → List Member → List Member
next_all x members = map (next_of x) members

-- SPEC 15.7: the members after all were decided for: moved where no number was given, and else as they were.
unfoldable pub settled_after : Movement → Tally → List Member → List Member
settled_after x t members = cond (eqb (tally_all x t members).number 0) (next_all x members) members

-- SPEC 15.6: what a tally answers.
abbrev pub reply_of : Tally → SectionReply
reply_of t = record { number = t.number; place = t.place; force = t.force; moment = t.moment }

-- ---- What the steps ask

-- SPEC 15.7: room in a tally for so many rods more: with 32 of them no sum leaves 64 bits.
pub record Room (rods : ℕ) (t : Tally) : Type 0 where
  pub seen : t.seen + rods ≤ most_rods
  pub force : nat_abs t.force ≤ t.seen * most_force
  pub moment : nat_abs t.moment ≤ t.seen * most_moment

-- SPEC 15.7: what holds of a tally that no number of the section's own has ended.
abbrev pub GoesOn : (rods : ℕ) → Tally → Type 0
GoesOn rods t = sections_own t ≡ false → Room rods t

-- SPEC 15.7: the lines that are decided before the first member.
unfoldable pub open_refusals : (sheet : List ℕ) → (members : ℕ) → Change → List Refusal
open_refusals sheet members c = sheet_refusals sheet ++ (refusal 14 (not (call_right members c)) ∷ [])

-- SPEC 15.7: the tally before the first member.
abbrev pub start_by : {A : Type 0} → Answer A → Tally
start_by (passes _) = bare_tally 0 0
start_by (refused number) = bare_tally number 0

-- SPEC 15.7: the tally that the code has before the first member, where it goes on to the members or doesn't.
abbrev pub start_of : Result Movement Reason → Tally
start_of (Ok x) = bare_tally 0 0
start_of (Err reason) = bare_tally (number_of reason) 0

-- SPEC 15.7: what the code begins with.
pub record Opened (sheet : List ℕ) (members : ℕ) (c : Change) (o : Result Movement Reason) : Type 0 where
  pub start : start_of o ≡ start_by (first_of (open_refusals sheet members c) (sheet_of sheet))
  pub movement : IfOk o (λ x. (x.material.now.sheet ≡ sheet_of sheet) × (x.change ≡ c))
  pub ready : IfOk o (λ _. GoesOn members (bare_tally 0 0))
