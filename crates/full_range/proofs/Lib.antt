pub mod FoundNumbers
pub mod FullRangeTests
pub mod FullRangeWalk
pub mod FullRangePass
pub mod FullRangeLights
