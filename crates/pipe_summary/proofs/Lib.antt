pub mod TurnFacts
pub mod TextLists
mod SumFacts
mod SummedFacts
mod ReadFacts
mod HoldFacts
mod AddFacts
