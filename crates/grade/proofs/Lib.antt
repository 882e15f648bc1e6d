pub mod GradeLaws
pub mod Numbers
pub mod OutsideLaws
