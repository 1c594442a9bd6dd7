pub mod Row
pub mod Answer
pub mod Element
