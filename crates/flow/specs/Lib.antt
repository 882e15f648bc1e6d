pub mod Side
pub mod CurveSide
pub mod Conditions
pub mod Solution
pub mod Rounded
pub mod Stored
