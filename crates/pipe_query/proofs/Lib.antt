pub mod Shapes
pub mod PartFacts
pub mod FlatFacts
pub mod ListFacts
pub mod FieldFacts
pub mod FlatTrees
pub mod QueryFacts
