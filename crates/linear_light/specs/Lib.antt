pub mod LinearLight
pub mod Conversion
pub mod Row
