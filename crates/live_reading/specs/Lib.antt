pub mod Promises
pub mod FromContracts
pub mod AsRead
