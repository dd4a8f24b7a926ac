pub mod Answers
pub mod Steps
pub mod Order
pub mod Parts
pub mod Exactly
