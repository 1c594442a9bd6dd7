pub mod LeadingLaws
pub mod NumberLaws
pub mod ProductLaws
pub mod QuotientLaws
