pub mod Workers
pub mod Turns
pub mod Steps
pub mod Rounds
