pub mod ReadsLaws
pub mod FromStream
pub mod Few
