pub mod WantedFacts
pub mod ChosenFacts
