pub mod Wrapping
pub mod Summing
pub mod Single
