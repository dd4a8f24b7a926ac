pub mod Looking
pub mod Asking
pub mod Single
