pub mod Nonces
pub mod Sizes
pub mod Lines
