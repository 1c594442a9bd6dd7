pub mod ShareLaws
pub mod CodesLaws
