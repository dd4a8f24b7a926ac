pub mod Moments
pub mod Whole
pub mod AsRead
pub mod Runs
