pub mod Closing
pub mod Single
