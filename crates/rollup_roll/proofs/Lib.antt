pub mod TellFacts
pub mod OverlapFacts
pub mod OneEnd
