pub mod Pads
pub mod Writing
pub mod Passing
pub mod Calls
pub mod Single
pub mod Contracts
