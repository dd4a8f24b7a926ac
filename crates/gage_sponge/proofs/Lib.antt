pub mod Stopping
pub mod Single
pub mod Blocks
