pub mod PeakTests
pub mod PeakWalk
pub mod PeaksPass
pub mod PeakSignals
