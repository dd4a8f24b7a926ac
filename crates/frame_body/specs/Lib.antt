pub mod Fields
pub mod Answers
pub mod Lengths
pub mod OneToOne
pub mod Places
pub mod Job
pub mod Known
