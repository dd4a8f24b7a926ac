pub mod Promises
pub mod FromContracts
pub mod Bytes
pub mod Refused
pub mod Differs
pub mod Received
pub mod Shown
pub mod InOrder
