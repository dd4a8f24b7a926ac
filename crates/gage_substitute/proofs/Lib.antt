pub mod Joined
pub mod Restoring
pub mod Firsts
pub mod Single
