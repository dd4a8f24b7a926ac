pub mod Giving
pub mod Single
pub mod Contracts
pub mod Runs
