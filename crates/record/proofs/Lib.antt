pub mod Areas
pub mod Numbers
pub mod Passing
pub mod Rows
pub mod Bytes
