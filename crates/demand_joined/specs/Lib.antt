pub mod Bytes
pub mod Makes
pub mod NoShared
pub mod Seeing
pub mod Stretches
pub mod Frames
pub mod Fillers
