pub mod ComponentLaws
pub mod FormatLaws
