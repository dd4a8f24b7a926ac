pub mod Instances
pub mod Hashing
pub mod Known
pub mod Shapes
pub mod Outputs
