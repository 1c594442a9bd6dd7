pub mod FoundNumbers
pub mod PointTests
pub mod PointsPass
pub mod PointLights
