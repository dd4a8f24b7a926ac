pub mod Judging
pub mod Copying
pub mod Calls
pub mod Single
