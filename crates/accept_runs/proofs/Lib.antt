pub mod Runs
pub mod YesExactly
pub mod FirstFault
