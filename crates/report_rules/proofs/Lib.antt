pub mod Act
pub mod Steps
pub mod Whole
pub mod Memory
