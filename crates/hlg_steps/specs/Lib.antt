pub mod Exponential
pub mod Signal
pub mod Steps
pub mod StepTable
