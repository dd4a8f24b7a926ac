pub mod Answering
pub mod Single
