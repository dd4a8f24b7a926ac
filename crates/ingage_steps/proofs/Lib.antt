pub mod Writing
pub mod Single
