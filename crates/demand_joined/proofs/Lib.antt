pub mod Instance
pub mod Joined
pub mod Lines
