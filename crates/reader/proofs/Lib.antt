pub mod Checked
pub mod Decided
pub mod Done
pub mod Known
pub mod Marks
pub mod Steps
