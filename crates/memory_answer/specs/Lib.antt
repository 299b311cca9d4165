pub mod Answers
pub mod Faults
pub mod Giving
pub mod Held
