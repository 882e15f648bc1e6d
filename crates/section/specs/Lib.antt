pub mod Sections
pub mod Tallies
