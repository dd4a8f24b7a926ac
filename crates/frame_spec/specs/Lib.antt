pub mod Told
pub mod Frames
pub mod Lengths
pub mod Marks
pub mod OneToOne
pub mod AnyLayout
