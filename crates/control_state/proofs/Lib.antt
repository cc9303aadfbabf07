pub mod Remaining
pub mod Numbers
