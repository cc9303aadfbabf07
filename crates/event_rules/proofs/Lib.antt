pub mod Halts
pub mod Others
pub mod Promises
pub mod AsWritten
pub mod Raised
