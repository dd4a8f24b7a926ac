pub mod Taking
pub mod Giving
pub mod Parting
pub mod Single
