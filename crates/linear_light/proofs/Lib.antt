pub mod ValueLaws
pub mod ProductLaws
pub mod FiniteLaws
pub mod RowLaws
pub mod Examples
