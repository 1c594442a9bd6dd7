pub mod Pixel
pub mod Row
pub mod Linear
