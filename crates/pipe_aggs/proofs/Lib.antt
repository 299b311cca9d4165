pub mod KnownFacts
pub mod OutputFacts
pub mod FaultFacts
pub mod QueryFacts
pub mod CheckedFacts
pub mod InputFacts
pub mod GroupableFacts
pub mod HashAggFacts
