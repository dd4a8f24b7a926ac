pub mod Filling
pub mod Growing
pub mod Single
