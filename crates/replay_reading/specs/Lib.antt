pub mod Order
pub mod Streams
pub mod Requests
