pub mod BetweenLaws
pub mod PixelLaws
pub mod Examples
