mod SenderFacts
pub mod Sending
