pub mod Orders
pub mod Rows
