-- What is claimed of sections (SPEC 15.8 to 15.11): their answers by the tables, each member as a lone rod, and demand 3 over lists of
-- section calls; cited by proofs/Demands. Definitions only, over what a section leaves and never over the program; nothing is assumed.
use Rattle.std.specs.Prelude.{ℕ, ◌+◌, ◌*◌, ◌≤◌, ◌≡◌, true, cond, List, [], ◌∷◌, ◌++◌, map, ◌⊎◌, ◌↔◌, length, replicate, eqb, ℤ, nat_abs}
use Rattle.refusals.specs.Table.{NoneApplies, Given, numbers_of}
use Rattle.ranges.specs.Ranges.{most_rods}
use Rattle.pair.specs.Pairs.{pair_bytes, pair_in_range}
use Rattle.row.specs.Rows.{row_length}
use Rattle.sheet.specs.Sheets.{sheet_of}
use Rattle.sheet.specs.Sound.{SheetSound}
use Rattle.state.specs.States.{state_length, state_of}
use Rattle.section.specs.declared.Member.{Member}
use Rattle.section.specs.declared.Change.{Change}
use Rattle.section.specs.Sections.{member_pair, member_table, section_refusals, force_of, moment_of, most_force, most_moment, sum, turned_away, section_leaves}
use Rattle.tie_rod.specs.Calls.{Call, call, single, call_leaves}
use Rattle.grade.specs.Grades.{Grading}
use Rattle.demands.specs.Lists.{Operation, carries, begins, after_all, Holds, AtEveryStop, MovedOn}
use Rattle.demands.specs.Gradings.{AtGrading}

-- ---- Demand 1 for a section

-- SPEC 15.8: something holds of each of some members,
abbrev pub Each : (Member → Type 0) → List Member → Type 0
Each P [] = Unit {0}
Each P (m ∷ members) = P m × Each P members

-- and of each with the one that stands at its place afterwards.
abbrev pub EachAfter : (Member → Member → Type 0) → (members after : List Member) → Type 0
EachAfter P [] [] = Unit {0}
EachAfter P [] (n ∷ after) = ⊥
EachAfter P (m ∷ members) [] = ⊥
EachAfter P (m ∷ members) (n ∷ after) = P m n × EachAfter P members after

-- SPEC 15.5: the sum of the forces of members as they stand, by the stresses in their states,
abbrev pub force_now : List Member → ℤ
force_now members = sum (map (λ (m : Member). force_of m (state_of m.state).stress.0) members)

-- and of their moments.
abbrev pub moment_now : List Member → ℤ
moment_now members = sum (map (λ (m : Member). moment_of m (state_of m.state).stress.0) members)

-- SPEC 15.9: the single pair that a call is to a member, with room for a row and a state.
abbrev pub lone_call : Change → Member → Call
lone_call c m = call single (pair_bytes (member_pair c m)) (replicate row_length 0) (replicate state_length 0)

-- SPEC 15.10: the calls of the lone rod beside a member: a single pair for each of some changes.
abbrev pub lone_calls : Member → List Change → List Operation
lone_calls m changes = map (λ (c : Change). carries (lone_call c m)) changes

-- SPEC 15.9: a member that moved is where a lone rod of its state is after that single pair, which is accepted.
pub record MovedAlone (sheet : List ℕ) (c : Change) (m after : Member) : Type 0 where
  pub accepted : (call_leaves sheet m.state (lone_call c m)).reply.number ≡ 0
  pub state : after.state ≡ (call_leaves sheet m.state (lone_call c m)).next
  pub area : after.area ≡ m.area
  pub offset : after.offset ≡ m.offset

module _ (sheet : List ℕ) (c : Change) (members : List Member) where
  -- SPEC 15.8: why a section is answered so. The sheet, or the section as a whole, is refused: place 0.
  pub record BySection (number place : ℕ) : Type 0 where
    pub given : Given (section_refusals sheet c members) number
    pub nowhere : place ≡ 0

  -- A member is given the number, and no member before it is given one; its place is counted from 1.
  pub record ByMember (number place : ℕ) : Type 0 where
    pub own : NoneApplies (section_refusals sheet c members)
    pub before : List Member
    pub member : Member
    pub behind : List Member
    pub in_order : members ≡ before ++ (member ∷ behind)
    pub none_before : Each (λ (m : Member). NoneApplies (member_table (sheet_of sheet) c m)) before
    pub given : Given (member_table (sheet_of sheet) c member) number
    pub at : place ≡ length before + 1

  -- Every member passes: number 0 and place 0.
  pub record ByNobody (number place : ℕ) : Type 0 where
    pub own : NoneApplies (section_refusals sheet c members)
    pub all_pass : Each (λ (m : Member). NoneApplies (member_table (sheet_of sheet) c m)) members
    pub no_number : number ≡ 0
    pub nowhere : place ≡ 0

  -- One of these three, and there is no other way.
  abbrev pub SectionReason : (number place : ℕ) → Type 0
  SectionReason number place = BySection number place ⊎ (ByMember number place ⊎ ByNobody number place)

-- SPEC 15.8: a section's answer is that of the tables, and all members move or none does.
pub record SectionAnswered (sheet : List ℕ) (c : Change) (members : List Member) : Type 0 where
  pub order : numbers_of (section_refusals sheet c members) ≡ 1 ∷ 2 ∷ 3 ∷ 13 ∷ 14 ∷ []
  pub member_order : (m : Member) → numbers_of (member_table (sheet_of sheet) c m) ≡ 4 ∷ 5 ∷ 6 ∷ 8 ∷ 9 ∷ 10 ∷ []
  -- a number and a place are answered exactly where there is a reason for them
  pub exactly : (number place : ℕ)
      → (((section_leaves sheet c members).reply.number ≡ number) × ((section_leaves sheet c members).reply.place ≡ place))
      ↔ SectionReason sheet c members number place
  -- beside a number force and moment are 0, and every member is as it was: area, offset and every byte of its state
  pub is_turned_away : (number place : ℕ) → BySection sheet c members number place ⊎ ByMember sheet c members number place
      → section_leaves sheet c members ≡ turned_away number place members
  -- SPEC 15.9: a refused member's number is the one that a lone rod of its state gets for its pair, if there is such a pair in bytes
  pub refused_alone : (number place : ℕ) (by : ByMember sheet c members number place) → pair_in_range (member_pair c by.member) ≡ true
      → (call_leaves sheet by.member.state (lone_call c by.member)).reply.number ≡ number
  -- where there is no number each member moved as a lone rod does, and force and moment are those of the members as they stand then
  pub all_move : (section_leaves sheet c members).reply.number ≡ 0 → EachAfter (MovedAlone sheet c) members (section_leaves sheet c members).members
  pub force : (section_leaves sheet c members).reply.number ≡ 0
      → (section_leaves sheet c members).reply.force ≡ force_now (section_leaves sheet c members).members
  pub moment : (section_leaves sheet c members).reply.number ≡ 0
      → (section_leaves sheet c members).reply.moment ≡ moment_now (section_leaves sheet c members).members
  -- SPEC 15.5: neither can leave 64 bits
  pub force_most : nat_abs (section_leaves sheet c members).reply.force ≤ most_rods * most_force
  pub moment_most : nat_abs (section_leaves sheet c members).reply.moment ≤ most_rods * most_moment
  -- SPEC 15.4: 4 is no member's number where its state has a state's length
  pub no_4 : (m : Member) → length m.state ≡ state_length → Given (member_table (sheet_of sheet) c m) 4 → ⊥

-- ---- Demand 3 for sections

-- SPEC 15.10: what a list of section calls has come to: the members, and the changes of the calls accepted so far.
pub record SectionSituation : Type 0 where
  pub members : List Member
  pub changes : List Change

-- SPEC 15.10: where a list begins.
abbrev pub section_begins : List Member → SectionSituation
section_begins members = record { members = members; changes = [] }

-- All calls are on one sheet, and each is given the members that the one before it left.
module _ (sheet : List ℕ) where
  -- SPEC 15.10: an accepted call adds its change, by its number alone; a refused one adds nothing.
  abbrev pub after_section : SectionSituation → Change → SectionSituation
  after_section s c =
      let l = section_leaves sheet c s.members in
      record { members = l.members; changes = s.changes ++ cond (eqb l.reply.number 0) (c ∷ []) [] }

  module _ (sound : SheetSound (sheet_of sheet)) (unused : List ℕ) where
    -- SPEC 15.11: what holds of a member that began as `began`, behind some accepted calls. It is where the lone rod is that began unused
    -- and was given their own pairs, all of which it accepted, and all of demand 3 holds of that rod.
    pub record LikeLone (changes : List Change) (began m : Member) : Type 0 where
      pub area : m.area ≡ began.area
      pub offset : m.offset ≡ began.offset
      pub state : m.state ≡ (after_all sheet (begins unused) (lone_calls began changes)).state
      pub history : (after_all sheet (begins unused) (lone_calls began changes)).history ≡ map (λ (c : Change). member_pair c began) changes
      pub holds : Holds sheet sound (after_all sheet (begins unused) (lone_calls began changes))
      pub every_stop : AtEveryStop sheet sound (begins unused) (lone_calls began changes)

    -- SPEC 15.11: demand 3 for a list of section calls: it holds of every member before each call, and at the end.
    abbrev pub AtEverySection : (began : List Member) → SectionSituation → List Change → Type 0
    AtEverySection began s [] = EachAfter (LikeLone s.changes) began s.members
    AtEverySection began s (c ∷ changes) = EachAfter (LikeLone s.changes) began s.members × AtEverySection began (after_section s c) changes

    -- SPEC 11.8, 15.11, 17.8: demand 3 whole: lists of a rod that begins unused, tables graded behind them, and lists of section calls whose
    -- members do.
    pub record WithinFrom : Type 0 where
      pub lists : (list : List Operation) → AtEveryStop sheet sound (begins unused) list
      -- SPEC 11.16: as soon as the rod has moved on, no trial from before can be kept
      pub moved_on : (list more : List Operation) → MovedOn sheet (after_all sheet (begins unused) list) more
      -- SPEC 17.8: a table graded from where any such list has come to; from the unused rod where the list is empty
      pub gradings : (list : List Operation) (g : Grading) → AtGrading sheet (after_all sheet (begins unused) list) g sound
      pub sections : (members : List Member) → Each (λ (m : Member). m.state ≡ unused) members
          → (changes : List Change) → AtEverySection members (section_begins members) changes
