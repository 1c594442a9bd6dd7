pub mod OpeningLaws
pub mod RowsLaws
pub mod ReadingLaws
pub mod RewrittenLaws
pub mod PartLaws
