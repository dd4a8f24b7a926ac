pub mod Instances
pub mod Cipher
pub mod Masking
pub mod Pieces
pub mod Runs
pub mod Flows
pub mod Known
