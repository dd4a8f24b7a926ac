pub mod Nonces
pub mod Accepting
pub mod Exactly
pub mod Readings
