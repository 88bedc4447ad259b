pub mod Given
pub mod Course
