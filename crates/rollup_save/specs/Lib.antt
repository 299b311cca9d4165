pub mod Saves
pub mod Taken
