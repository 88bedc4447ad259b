pub mod Limit
pub mod Values
