pub mod Variables
pub mod InRange
pub mod WithinLimit
pub mod Against
pub mod Forecast
pub mod Unused
pub mod Steps
pub mod Accepted
