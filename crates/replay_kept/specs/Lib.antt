pub mod Promises
pub mod FromContracts
pub mod Bytes
pub mod AsRead
pub mod Stepping
pub mod Differs
pub mod Received
pub mod Refused
