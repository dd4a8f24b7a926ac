pub mod Layouts
pub mod Rule
pub mod Tests
pub mod Laid
