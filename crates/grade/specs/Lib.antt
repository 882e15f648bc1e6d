pub mod Grades
pub mod Comparing
