pub mod Keeping
pub mod Running
pub mod Standing
pub mod Answering
pub mod Single
