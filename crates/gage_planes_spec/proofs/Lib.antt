pub mod Both
pub mod Moving
pub mod Rounding
pub mod Turning
pub mod WindowsLaws
pub mod Permuting
