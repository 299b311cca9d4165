pub mod TakenFacts
pub mod TextFacts
