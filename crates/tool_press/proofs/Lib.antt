pub mod Rows
pub mod Single
