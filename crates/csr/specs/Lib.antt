pub mod Registers
pub mod Control
pub mod Sound
pub mod Kept
