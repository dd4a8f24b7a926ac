pub mod Counting
pub mod Single
