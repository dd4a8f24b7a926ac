pub mod Promises
pub mod Runs
pub mod Last
pub mod Exactly
pub mod FromContracts
