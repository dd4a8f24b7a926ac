pub mod Behind
pub mod Counting
pub mod Growing
pub mod Joined
pub mod Joining
