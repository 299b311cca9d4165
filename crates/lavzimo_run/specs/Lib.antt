pub mod Jobs
pub mod Stores
pub mod Running
pub mod Begun
