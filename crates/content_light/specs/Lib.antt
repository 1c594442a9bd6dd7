pub mod Peak
pub mod Run
pub mod Bounds
pub mod Rank
