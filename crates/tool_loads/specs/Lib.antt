pub mod Said
pub mod Early
pub mod Fonts
