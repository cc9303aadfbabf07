pub mod Driver
pub mod Demands
pub mod Whole
pub mod Late
