-- A section's answer for C (SPEC 9.10, 15.6), cited by the contract of this crate; definitions only, nothing is assumed.
use Rattle.std.specs.Prelude.{ℕ, List, ℤ}
use Rattle.refusals.specs.Table.{in_one_number}
use Rattle.section.specs.declared.Member.{Member}
use Rattle.section.specs.Sections.{SectionLeft}

-- SPEC 15.6: what a section leaves, as C sees it: that number, the force, the moment, and every member.
pub record SectionSeen : Type 0 where
  pub answer : ℕ
  pub force : ℤ
  pub moment : ℤ
  pub members : List Member

abbrev pub section_seen : (answer : ℕ) → (force moment : ℤ) → (members : List Member) → SectionSeen
section_seen answer force moment members = record { answer = answer; force = force; moment = moment; members = members }

abbrev pub section_seen_of : SectionLeft → SectionSeen
section_seen_of l = section_seen (in_one_number l.reply.number l.reply.place) l.reply.force l.reply.moment l.members
