pub mod Permutation
pub mod Tables
pub mod States
pub mod Inverse
pub mod Answers
