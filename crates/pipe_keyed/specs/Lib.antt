pub mod Keyed
pub mod KeyedLayout
pub mod Merges
pub mod Tables
pub mod TakenRows
