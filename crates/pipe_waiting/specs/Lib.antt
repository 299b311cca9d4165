pub mod ReadRows
pub mod Waiting
pub mod PlainValues
pub mod OwnRows
pub mod Worked
