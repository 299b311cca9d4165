pub mod ListFacts
pub mod CellFacts
pub mod TypeFacts
pub mod RunFacts
