pub mod TestLaws
pub mod LinearLaws
