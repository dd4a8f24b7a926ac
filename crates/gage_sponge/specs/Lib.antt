pub mod Padding
pub mod Absorbing
pub mod Xor
