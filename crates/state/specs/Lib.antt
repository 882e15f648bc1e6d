pub mod States
pub mod Passing
