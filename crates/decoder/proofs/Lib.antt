pub mod Decoded
pub mod Accepted
