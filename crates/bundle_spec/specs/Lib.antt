pub mod Bundles
pub mod Lengths
pub mod Exactly
pub mod Places
pub mod Alike
