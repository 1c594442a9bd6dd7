pub mod Position
pub mod Code
