pub mod QueryWord
pub mod Names
pub mod Reading
