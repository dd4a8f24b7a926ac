pub mod Sealing
pub mod Framing
pub mod Answering
pub mod Single
