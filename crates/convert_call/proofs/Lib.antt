pub mod Converting
pub mod Single
