pub mod Growing
pub mod Held
