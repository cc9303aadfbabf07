pub mod Table
pub mod Writes
pub mod Readings
pub mod Rounds
pub mod Late
pub mod Allocations
