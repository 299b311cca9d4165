pub mod Joined
pub mod JoinedState
pub mod Core
pub mod CoreState
pub mod Ended
pub mod Telling
