pub mod Reading
pub mod Answering
pub mod Rounds
pub mod MadeLines
