pub mod Conversion
pub mod CornerPixels
