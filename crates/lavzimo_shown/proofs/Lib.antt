pub mod ColumnFacts
pub mod NoneFacts
pub mod GroupMoves
pub mod AnswerRows
pub mod PartitionLaws
