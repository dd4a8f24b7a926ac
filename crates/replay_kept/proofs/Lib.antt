pub mod InOrder
pub mod Shown
pub mod Differs
pub mod Received
pub mod Refused
