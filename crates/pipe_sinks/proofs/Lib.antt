mod SlicePartFacts
pub mod InsertFacts
pub mod SoleFacts
pub mod KeyRunFacts
pub mod MarkedFacts
pub mod ChunkFacts
pub mod ChunkRunFacts
pub mod CutFacts
pub mod PlacedFacts
pub mod RunFacts
pub mod MarkFacts
pub mod PartPlaceFacts
pub mod GaveFacts
mod KeptFacts
mod SecretFacts
