pub mod Running
pub mod Order
pub mod Growth
pub mod Cutting
