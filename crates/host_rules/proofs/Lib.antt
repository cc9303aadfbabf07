pub mod Host
pub mod Replies
pub mod Arrivals
