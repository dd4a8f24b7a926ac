pub mod Reading
pub mod Walking
pub mod Judging
pub mod Single
pub mod Exactly
