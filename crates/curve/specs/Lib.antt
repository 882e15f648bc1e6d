pub mod Curve
pub mod Tangent
pub mod Sides
pub mod Carried
