pub mod ReadBack
pub mod Appending
pub mod Giving
pub mod FrameFacts
pub mod PlainRead
pub mod PlainValue
