pub mod Encode
pub mod Groups
pub mod Steps
pub mod Arguments
pub mod Packets
pub mod Entries
pub mod Text
pub mod Lines
