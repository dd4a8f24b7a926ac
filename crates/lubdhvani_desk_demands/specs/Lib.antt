pub mod Promises
pub mod FromContracts
pub mod Bytes
pub mod Done
pub mod Reads
