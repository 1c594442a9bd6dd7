pub mod LinearLaws
pub mod MappingLaws
pub mod NearLaws
pub mod BlockLaws
pub mod RowLaws
