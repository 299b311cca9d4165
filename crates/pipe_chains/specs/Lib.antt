pub mod Chains
pub mod Hash
pub mod Heads
pub mod Layout
