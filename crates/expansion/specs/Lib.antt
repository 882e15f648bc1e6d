pub mod Points
pub mod Coefficient
