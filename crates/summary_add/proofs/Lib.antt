pub mod EndFacts
pub mod FileFacts
