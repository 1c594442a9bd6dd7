pub mod LightLaws
pub mod ProductLaws
pub mod PixelLaws
pub mod BetweenLaws
pub mod Examples
pub mod GreyHints
pub mod GreyLaws
