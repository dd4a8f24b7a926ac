pub mod Handed
pub mod Single
