pub mod Lines
pub mod Bytewise
pub mod Trade
pub mod Rule
