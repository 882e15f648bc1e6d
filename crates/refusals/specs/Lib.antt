pub mod Reasons
pub mod Table
