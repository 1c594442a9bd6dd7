pub mod PowerBounds
pub mod PqTests
pub mod TableHints
pub mod TableTest
pub mod PqLaws
pub mod EntryLaws
pub mod CellWalk
