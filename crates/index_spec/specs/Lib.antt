pub mod Entries
pub mod Updating
pub mod Recorded
pub mod Last
pub mod Cases
