pub mod Answers
pub mod Fitting
pub mod Outcomes
