pub mod Sizes
pub mod Shuffling
pub mod Widths
pub mod Places
pub mod Tables
pub mod Bits
pub mod States
pub mod Inverse
