pub mod Arranged
pub mod Entries
pub mod Places
