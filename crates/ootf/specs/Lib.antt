pub mod Light
pub mod Root
