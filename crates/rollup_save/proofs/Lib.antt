pub mod StateFacts
pub mod RoundFacts
pub mod FileFacts
