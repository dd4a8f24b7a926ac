pub mod Turns
pub mod Listing
