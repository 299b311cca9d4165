pub mod Sums
pub mod InTurn
pub mod Additions
pub mod Summed
pub mod Seen
pub mod HeldStates
pub mod Held
