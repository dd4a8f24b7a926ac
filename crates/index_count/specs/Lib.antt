pub mod Counted
pub mod Alike
