pub mod Holding
pub mod Single
