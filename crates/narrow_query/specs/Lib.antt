pub mod Names
pub mod Narrowed
