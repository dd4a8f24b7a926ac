pub mod Finding
pub mod Sorted
