pub mod Cleared
pub mod Walk
pub mod Accepted
pub mod Zero
pub mod Poll
pub mod PollReplies
pub mod Round
pub mod Steps
