pub mod Taking
pub mod Steps
pub mod Ends
pub mod Marks
pub mod After
pub mod Sample
