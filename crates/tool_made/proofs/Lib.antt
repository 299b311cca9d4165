pub mod MadeFacts
pub mod Heights
