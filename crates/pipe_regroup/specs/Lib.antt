pub mod Rules
pub mod Groups
pub mod Regrouping
pub mod Spread
pub mod Covered
pub mod Frames
pub mod Added
