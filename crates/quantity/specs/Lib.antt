pub mod Units
pub mod Component
pub mod SampleFormat
pub mod Source
