pub mod Row
pub mod Codes
pub mod Shares
