pub mod Told
pub mod Rolled
pub mod Reading
