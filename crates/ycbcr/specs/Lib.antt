pub mod Rounding
pub mod YCbCr
pub mod Delivery
pub mod CornerColours
