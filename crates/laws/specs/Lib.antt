pub mod Fraction
pub mod Side
pub mod Largest
