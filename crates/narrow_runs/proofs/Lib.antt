pub mod AlikeRuns
pub mod FewerFacts
pub mod WidenedFacts
