pub mod Response
pub mod Limits
pub mod SideFlows
pub mod Candidates
pub mod Solved
