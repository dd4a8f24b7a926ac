pub mod Given
pub mod Requests
pub mod Resync
pub mod Written
