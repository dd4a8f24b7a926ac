pub mod Loading
pub mod Held
