-- A section (SPEC 15): what a call answers and what every member is after it, over the members as a list; cited by this crate, section_c and
-- the demands. Definitions only, for any bytes, any numbers and any members; nothing is assumed.
use Rattle.std.specs.Prelude.{ℕ, ◌+◌, ◌*◌, ◌/◌, ◌≡◌, Bool, true, not, ◌&&◌, List, [], ◌∷◌, ◌++◌, map, length, ℤ, pos, nat_abs, ◌+ℤ◌, ◌*ℤ◌, Result, Ok, Err}
use Rattle.refusals.specs.Table.{Refusal, refusal, Answer, passes, refused, first_of}
use Rattle.refusals.specs.declared.Refused.{Refused}
use Rattle.refusals.specs.Reasons.{number_of}
use Rattle.units.specs.Kinds.{nano, tenths, curvature}
use Rattle.units.specs.Signs.{is_neg, with_sign}
use Rattle.bits.specs.Field.{within}
use Rattle.ranges.specs.Ranges.{around, grains, most_change, most_stress, most_rods, most_area, most_offset, most_curvature}
use Rattle.sheet.specs.declared.Sheet.{Sheet}
use Rattle.sheet.specs.Sheets.{sheet_refusals, sheet_of}
use Rattle.pair.specs.declared.Pair.{Pair}
use Rattle.pair.specs.Pairs.{pair_in_range}
use Rattle.state.specs.States.{state_of, state_bytes}
use Rattle.rod.specs.declared.Rod.{Rod}
use Rattle.rod.specs.declared.step.Advance.{Advance}
use Rattle.rod.specs.Steps.{advance_of, step_refusals}
use Rattle.judge.specs.Standing.{holder_refusals}
use Rattle.section.specs.declared.Member.{Member}
use Rattle.section.specs.declared.Change.{Change}
use Rattle.section.specs.declared.Forces.{Forces}

-- SPEC 15.3: a change of mean strain and of curvature with a new temperature, from any numbers.
abbrev pub change_of : (mean curvature temperature : ℤ) → Change
change_of mean k temperature = record { mean = nano mean; curvature = curvature k; temperature = tenths temperature }

-- ---- The section's own number

-- SPEC 15.2: area and offset of a member are in their ranges,
unfoldable pub member_right : Member → Bool
member_right m = within 1 most_area m.area && around most_offset m.offset

-- and those of all.
unfoldable pub all_right : List Member → Bool
all_right [] = true
all_right (m ∷ members) = member_right m && all_right members

-- SPEC 15.2, 15.3: so many members may be tied to one plate, and the changes of mean strain and of curvature are in their ranges.
unfoldable pub call_right : (members : ℕ) → Change → Bool
call_right members c = within 1 most_rods members && around most_change c.mean.0 && around most_curvature c.curvature.0

-- SPEC 15.3: changes in their ranges.
pub record ChangeRight (c : Change) : Type 0 where
  pub mean : around most_change c.mean.0 ≡ true
  pub curvature : around most_curvature c.curvature.0 ≡ true

-- SPEC 8.2, 15.4: the lines of the sheet, and below them 14.
unfoldable pub section_refusals : (sheet : List ℕ) → Change → List Member → List Refusal
section_refusals sheet c members = sheet_refusals sheet ++ (refusal 14 (not (call_right (length members) c && all_right members)) ∷ [])

-- ---- One member

-- SPEC 15.3: the pair that a call is to a member: its change of strain is mean + curvature × offset.
abbrev pub member_pair : Change → Member → Pair
member_pair c m = record { change = nano (c.mean.0 +ℤ c.curvature.0 *ℤ m.offset); temperature = c.temperature }

-- SPEC 15.4: the lines of a member, which are those of a lone rod with this state and this pair: 4, 5 and 6 of the state, 8 of the pair,
-- 9 and 10 of the step.
unfoldable pub member_table : Sheet → Change → Member → List Refusal
member_table h c m =
    holder_refusals h m.state
    ++ (refusal 8 (not (pair_in_range (member_pair c m))) ∷ step_refusals h (state_of m.state) (member_pair c m))

-- SPEC 15.4: what they answer; a member that passes has the next state and the row of its pair.
unfoldable pub member_answer : Sheet → Change → Member → Answer Advance
member_answer h c m = first_of (member_table h c m) (advance_of h (state_of m.state) (member_pair c m))

-- SPEC 15.5: a stress of so many grains in whole 10⁻³ MPa, rounded toward zero: the magnitude is divided, and the sign put back.
abbrev pub cut_stress : ℤ → ℤ
cut_stress stress = with_sign (is_neg stress) (nat_abs stress / grains)

-- SPEC 15.5: the force of a member with this stress,
abbrev pub force_of : Member → (stress : ℤ) → ℤ
force_of m stress = cut_stress stress *ℤ pos m.area

-- and its moment.
abbrev pub moment_of : Member → (stress : ℤ) → ℤ
moment_of m stress = force_of m stress *ℤ m.offset

-- SPEC 15.5: how great they can be for one member, in magnitude.
abbrev pub most_force : ℕ
most_force = most_stress / grains * most_area

abbrev pub most_moment : ℕ
most_moment = most_force * most_offset

-- SPEC 15.6: the member with the state of a rod.
abbrev pub with_state : Member → Rod → Member
with_state m r = record { area = m.area; offset = m.offset; state = state_bytes r }

-- SPEC 15.5: what a member gives a section that moves: its force, its moment, and what it is afterwards.
pub record Move : Type 0 where
  pub force : ℤ
  pub moment : ℤ
  pub to : Member

-- SPEC 15.5: that of a member with the next state of its pair.
abbrev pub move_of : Member → Advance → Move
move_of m a = let stress = a.rod.stress.0 in record { force = force_of m stress; moment = moment_of m stress; to = with_state m a.rod }

-- ---- All members

-- SPEC 15.4: all members pass, or the lowest refused one stops them with its number and its place.
pub data Moves : Type 0 where
  all : List Move → Moves
  stopped : (number place : ℕ) → Moves

-- SPEC 15.4: what a member and those behind it come to. The member's own refusal goes before theirs.
abbrev pub moves_on : Member → (place : ℕ) → Answer Advance → (behind : Moves) → Moves
moves_on m place (refused number) behind = stopped number place
moves_on m place (passes a) (all moves) = all (move_of m a ∷ moves)
moves_on m place (passes a) (stopped number later) = stopped number later

-- SPEC 15.4: what some members come to, the first of them at this place.
unfoldable pub moves_from : Sheet → Change → (place : ℕ) → List Member → Moves
moves_from h c place [] = all []
moves_from h c place (m ∷ members) = moves_on m place (member_answer h c m) (moves_from h c (place + 1) members)

-- SPEC 15.5: a sum.
unfoldable pub sum : List ℤ → ℤ
sum [] = pos 0
sum (z ∷ rest) = z +ℤ sum rest

-- ---- What a call leaves

-- SPEC 15.6: what a section answers: number and place, force in 10⁻³ N and moment in 10⁻³ N mm.
pub record SectionReply : Type 0 where
  pub number : ℕ
  pub place : ℕ
  pub force : ℤ
  pub moment : ℤ

-- SPEC 15.6: what a result of the code stands for; force and moment are 0 where it is a refusal.
abbrev pub reply_meaning : Result Forces Refused → SectionReply
reply_meaning (Ok f) = record { number = 0; place = 0; force = f.force; moment = f.moment }
reply_meaning (Err r) = record { number = number_of r.reason; place = r.place; force = pos 0; moment = pos 0 }

-- SPEC 15.6: number, place, force, moment, and every member.
pub record SectionLeft : Type 0 where
  pub reply : SectionReply
  pub members : List Member

abbrev pub section_left : SectionReply → List Member → SectionLeft
section_left reply members = record { reply = reply; members = members }

-- SPEC 15.6: turned away: force and moment are 0, and the members are as they were.
abbrev pub turned_away : (number place : ℕ) → List Member → SectionLeft
turned_away number place members = section_left (record { number = number; place = place; force = pos 0; moment = pos 0 }) members

-- SPEC 15.6: all moved: force and moment are the sums of the members' parts.
abbrev pub moved : List Move → SectionLeft
moved moves =
    section_left
    (record { number = 0; place = 0; force = sum (map (λ (x : Move). x.force) moves); moment = sum (map (λ (x : Move). x.moment) moves) })
    (map (λ (x : Move). x.to) moves)

-- SPEC 15.6: by what the members came to,
abbrev pub settled : Moves → List Member → SectionLeft
settled (all moves) members = moved moves
settled (stopped number place) members = turned_away number place members

-- and by what the section's own lines answer; no member is looked at beside their number.
abbrev pub section_by : Answer Sheet → Change → List Member → SectionLeft
section_by (refused number) c members = turned_away number 0 members
section_by (passes h) c members = settled (moves_from h c 1 members) members

-- SPEC 15.6: what a call leaves. The contract of the entry is an equation with this.
unfoldable pub section_leaves : (sheet : List ℕ) → Change → List Member → SectionLeft
section_leaves sheet c members = section_by (first_of (section_refusals sheet c members) (sheet_of sheet)) c members
