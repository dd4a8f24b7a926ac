pub mod Storing
pub mod Single
