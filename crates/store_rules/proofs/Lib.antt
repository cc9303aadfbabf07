pub mod Own
pub mod Promises
pub mod Others
pub mod Named
pub mod Halts
pub mod AsWritten
pub mod Told
pub mod Pending
