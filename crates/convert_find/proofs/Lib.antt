pub mod Telling
pub mod Judged
pub mod Single
