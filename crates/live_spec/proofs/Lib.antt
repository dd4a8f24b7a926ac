pub mod Pieces
pub mod After
