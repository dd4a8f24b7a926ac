pub mod Trial
pub mod Large
