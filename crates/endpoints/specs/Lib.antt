pub mod Check
pub mod Endpoints
pub mod Numbers
pub mod InUse
pub mod Allocate
pub mod Replies
