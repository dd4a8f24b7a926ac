pub mod Saying
pub mod Single
