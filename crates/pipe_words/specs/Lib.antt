pub mod Command
pub mod Numbers
pub mod Actions
pub mod Plans
pub mod RestPlan
