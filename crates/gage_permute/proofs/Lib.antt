pub mod Judging
pub mod Rounds
pub mod Turning
pub mod Single
pub mod Contracts
