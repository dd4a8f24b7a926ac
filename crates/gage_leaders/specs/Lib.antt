pub mod Leaders
pub mod Register
