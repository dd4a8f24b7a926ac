pub mod Laying
pub mod Answers
pub mod Single
