pub mod Pixel
pub mod Row
