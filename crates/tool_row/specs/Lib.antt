pub mod Rows
pub mod Answers
pub mod Done
pub mod Decimal
