pub mod Shown
pub mod Calls
pub mod Unstuffing
pub mod Parts
pub mod Opening
pub mod Single
pub mod Jobs
pub mod Handed
