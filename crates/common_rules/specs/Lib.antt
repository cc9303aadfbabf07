pub mod Common
pub mod Kept
pub mod Stalling
pub mod Enable
pub mod Enabling
pub mod Overrun
