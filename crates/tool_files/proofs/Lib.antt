pub mod Answers
pub mod Moving
pub mod Single
