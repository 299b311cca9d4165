pub mod DigitFacts
pub mod KeyFacts
pub mod AskedFacts
