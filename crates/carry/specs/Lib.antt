pub mod Walk
pub mod Reaching
pub mod Trying
