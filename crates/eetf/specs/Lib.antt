pub mod Curve
pub mod Hermite
