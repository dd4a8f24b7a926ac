pub mod Starting
pub mod Answering
pub mod Single
