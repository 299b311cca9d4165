pub mod StoreFacts
pub mod RunFacts
