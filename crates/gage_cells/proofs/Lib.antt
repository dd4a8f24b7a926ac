pub mod Formula
pub mod Single
pub mod Inverse
