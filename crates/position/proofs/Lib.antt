pub mod LightLaws
pub mod PositionLaws
pub mod PeakLaws
pub mod CodeLaws
