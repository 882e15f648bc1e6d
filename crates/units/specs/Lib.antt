pub mod Kinds
pub mod Signs
