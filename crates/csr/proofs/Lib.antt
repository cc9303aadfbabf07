pub mod AsWritten
pub mod Modified
pub mod Sides
pub mod Soundness
pub mod Stored
pub mod Tame
pub mod Bits
