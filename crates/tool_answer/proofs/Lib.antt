pub mod MadeFacts
pub mod NarrowFacts
pub mod RunFacts
pub mod StoreFacts
pub mod ToolFacts
