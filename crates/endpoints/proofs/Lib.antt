pub mod CheckAnswers
pub mod Marked
pub mod Check
pub mod InUse
pub mod Answers
pub mod Changes
pub mod Allocate
pub mod Types
