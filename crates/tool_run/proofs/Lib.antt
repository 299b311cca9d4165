pub mod FeedFacts
pub mod MadeFacts
