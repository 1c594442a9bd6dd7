pub mod PixelLaws
pub mod OrderLaws
pub mod CornerPixels
