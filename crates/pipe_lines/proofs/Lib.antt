pub mod StackedRows
pub mod LineFacts
