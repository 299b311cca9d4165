pub mod MemoryFacts
pub mod ReadOn
pub mod TriedFacts
