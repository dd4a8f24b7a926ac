pub mod Places
pub mod Unstuffing
pub mod Written
pub mod Single
