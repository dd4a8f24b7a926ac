pub mod Accepting
pub mod Back
pub mod Narrowing
