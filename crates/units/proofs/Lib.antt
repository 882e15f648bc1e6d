pub mod Magnitudes
pub mod Words
pub mod Floors
