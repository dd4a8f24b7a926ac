pub mod Turns
pub mod FromContracts
pub mod Listing
