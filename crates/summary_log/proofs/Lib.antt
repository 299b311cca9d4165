pub mod WrittenFacts
pub mod LogFacts
pub mod EndFacts
