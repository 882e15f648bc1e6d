pub mod OrderTests
pub mod Neighbours
pub mod PointRanges
pub mod Line
pub mod PointsFrom
pub mod Behind
pub mod Interpolation
pub mod CoefficientBound
