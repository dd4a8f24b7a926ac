pub mod Sizes
pub mod Cells
pub mod Quasigroup
pub mod Pair
pub mod Products
pub mod Wide
pub mod States
pub mod Inverse
