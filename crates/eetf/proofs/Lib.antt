pub mod CubicLaws
pub mod FloorLaws
pub mod SplineLaws
pub mod SignedLaws
pub mod HermiteLaws
pub mod CurveLaws
pub mod MappingLaws
pub mod BetweenLaws
