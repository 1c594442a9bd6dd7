pub mod NextRowLaws
pub mod Program
pub mod RewrittenLaws
