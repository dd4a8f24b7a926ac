pub mod Promises
pub mod Done
pub mod Lines
pub mod Pieces
pub mod FromStream
pub mod Built
pub mod FromContracts
pub mod Instance
