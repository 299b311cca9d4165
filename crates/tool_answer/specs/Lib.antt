pub mod Asking
pub mod Ended
pub mod MadeRun
pub mod Headline
pub mod Faults
pub mod Inside
pub mod Status
pub mod Formats
