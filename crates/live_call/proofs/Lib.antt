pub mod Numbers
pub mod Going
pub mod Reading
pub mod Calling
pub mod Single
