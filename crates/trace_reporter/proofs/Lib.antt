pub mod Detailing
pub mod Reaching
