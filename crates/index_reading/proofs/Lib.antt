pub mod Added
pub mod Fresh
pub mod Growing
pub mod Lines
