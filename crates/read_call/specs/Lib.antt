pub mod Answers
pub mod Parts
pub mod Allowance
pub mod Narrowing
