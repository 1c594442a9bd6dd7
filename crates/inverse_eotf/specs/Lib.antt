pub mod Code
pub mod ThresholdTable
