pub mod Arrays
pub mod First
