pub mod MemberLaws
pub mod Openings
pub mod Numbers
pub mod MovesLaws
pub mod SectionLaws
pub mod SectionBounds
pub mod Stepwise
pub mod Tallying
