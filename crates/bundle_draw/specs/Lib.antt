pub mod Drawing
pub mod Answers
pub mod Listed
pub mod Showing
pub mod Making
pub mod Drawn
pub mod RoundTrip
