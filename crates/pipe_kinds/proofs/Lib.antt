pub mod ColumnFacts
pub mod HeldFacts
pub mod JoinFacts
pub mod KindFacts
pub mod RowFacts
pub mod RunFacts
pub mod StoredFacts
pub mod ViewFacts
