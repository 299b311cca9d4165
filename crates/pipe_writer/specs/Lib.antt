pub mod Arrivals
pub mod Sent
pub mod Carries
pub mod Taken
pub mod Sender
pub mod Wrote
pub mod Line
pub mod Sink
