pub mod HashFacts
pub mod LastIndex
pub mod Walks
mod AlongFacts
mod HeadFacts
mod LeadFacts
mod LinkFacts
mod SlotFacts
