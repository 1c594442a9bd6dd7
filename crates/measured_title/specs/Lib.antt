pub mod NextRow
pub mod Title
