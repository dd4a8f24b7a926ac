pub mod Desk
pub mod Chosen
pub mod Kept
