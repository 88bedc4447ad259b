pub mod Held
pub mod Counters
