pub mod Stored
pub mod Tables
pub mod Bits
pub mod Lanes
pub mod Valued
