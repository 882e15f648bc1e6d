pub mod FirstLaws
pub mod Numbered
pub mod ReasonLaws
