pub mod Appended
pub mod Decimals
pub mod Wrote
