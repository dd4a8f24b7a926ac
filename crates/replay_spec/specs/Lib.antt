pub mod Events
pub mod Press
pub mod Answers
pub mod Runs
pub mod Refusals
