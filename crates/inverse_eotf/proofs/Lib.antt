pub mod CodeLaws
pub mod TableLaws
