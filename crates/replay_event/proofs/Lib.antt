pub mod Finding
pub mod Single
