pub mod Walking
pub mod Single
