pub mod Machine
pub mod Sentences
pub mod Laws
pub mod Shams
