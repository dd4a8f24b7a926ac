pub mod Allowance
pub mod Cases
pub mod Counts
pub mod Narrowing
pub mod Numbers
pub mod OtherFont
