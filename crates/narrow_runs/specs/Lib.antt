pub mod FewerColumns
pub mod Widened
