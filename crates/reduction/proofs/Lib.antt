pub mod Table
pub mod Clearing
pub mod Messages
pub mod Words
