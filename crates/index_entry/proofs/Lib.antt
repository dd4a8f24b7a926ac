pub mod Passing
pub mod Single
