pub mod Shown
pub mod Act
pub mod Report
pub mod Runs
