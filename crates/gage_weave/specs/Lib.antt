pub mod Weaving
pub mod Exchanging
pub mod Drawing
pub mod Telling
pub mod Mixing
pub mod Arrays
pub mod One
