pub mod Valued
pub mod Stored
pub mod Places
