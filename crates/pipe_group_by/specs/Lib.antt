pub mod Positions
pub mod Taken
pub mod Typed
pub mod Jobs
pub mod Kinds
