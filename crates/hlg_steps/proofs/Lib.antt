pub mod SeriesLaws
pub mod ExponentialLaws
pub mod SignalTests
pub mod LogarithmLaws
pub mod SignalLaws
pub mod StepTests
pub mod StepLaws
