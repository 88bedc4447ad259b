pub mod Appended
pub mod Wrote
