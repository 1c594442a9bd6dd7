pub mod Span
pub mod Block
pub mod Linear
pub mod Dark
