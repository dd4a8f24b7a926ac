pub mod Making
pub mod Single
