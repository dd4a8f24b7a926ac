pub mod Counting
pub mod Reading
pub mod Walking
pub mod Calls
pub mod Single
