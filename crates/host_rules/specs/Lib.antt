pub mod Host
pub mod Replies
