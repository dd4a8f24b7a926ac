pub mod Promises
pub mod FramesAccepted
pub mod NonceOfLine
pub mod FromContracts
pub mod FirstFault
