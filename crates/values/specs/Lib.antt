pub mod Divisors
pub mod Values
