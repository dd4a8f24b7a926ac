-- That each C call's promise admits a single answer, one file for each wing.
pub mod Accept
pub mod Answers
pub mod Bundle
pub mod Convert
pub mod Digest
pub mod Frame
pub mod Gage
pub mod Index
pub mod Ingage
pub mod Read
pub mod Replay
pub mod Running
pub mod Version
pub mod Walk
