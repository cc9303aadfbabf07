pub mod Download
pub mod Sample
pub mod Histories
