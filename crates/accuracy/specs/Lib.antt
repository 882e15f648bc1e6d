pub mod Bar
pub mod Only
pub mod Within
