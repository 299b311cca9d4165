pub mod Left
pub mod Given
pub mod Sources
pub mod Wholes
pub mod Stacking
pub mod Tasks
