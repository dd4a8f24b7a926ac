pub mod Listing
pub mod Steps
pub mod Going
pub mod Joining
pub mod Runs
pub mod Sample
pub mod Unlimited
