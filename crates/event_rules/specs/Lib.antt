pub mod Events
pub mod Raised
pub mod Promise
pub mod AsWritten
