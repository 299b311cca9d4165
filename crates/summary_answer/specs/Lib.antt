pub mod Opened
pub mod Faults
pub mod Headline
pub mod Inside
pub mod Status
