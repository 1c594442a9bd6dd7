pub mod Code
pub mod Root
pub mod Settled
