pub mod Asking
pub mod Single
