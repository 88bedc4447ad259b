pub mod Steps
pub mod Records
pub mod Answers
pub mod Turns
pub mod Causes
