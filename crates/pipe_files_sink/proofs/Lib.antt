pub mod JoinedFacts
pub mod CoreFacts
pub mod TellsFacts
