pub mod ChunkRows
pub mod RowTypes
pub mod Cells
pub mod RowRuns
