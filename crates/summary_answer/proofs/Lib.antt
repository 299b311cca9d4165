pub mod EndFacts
pub mod CauseFacts
pub mod SummaryFacts
