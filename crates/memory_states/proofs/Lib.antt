pub mod AskedFacts
pub mod KeyFacts
pub mod OneResult
pub mod ResultFacts
pub mod SavedFacts
pub mod TakenFacts
