pub mod Control
pub mod Numbers
