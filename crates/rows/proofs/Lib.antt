pub mod ChunkLaws
pub mod RowLaws
pub mod SpanLaws
pub mod AnswerLaws
pub mod ElementLaws
