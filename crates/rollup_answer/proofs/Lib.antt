pub mod TellFacts
pub mod CauseFacts
pub mod RollupFacts
