pub mod Finding
pub mod Judging
pub mod Single
pub mod Bytes
pub mod Lengths
pub mod OneToOne
pub mod Job
pub mod Places
