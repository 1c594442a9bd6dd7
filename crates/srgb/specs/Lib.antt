pub mod Light
pub mod LightTable
pub mod Conversion
