pub mod Detailed
pub mod Told
pub mod Under
