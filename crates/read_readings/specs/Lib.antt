pub mod Readings
pub mod Resync
pub mod Reaching
pub mod Joining
pub mod Behind
pub mod Counting
pub mod Growing
pub mod Joined
