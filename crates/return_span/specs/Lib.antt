pub mod Codes
pub mod Settled
