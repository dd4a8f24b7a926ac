pub mod Counting
pub mod Going
pub mod Judging
pub mod Single
