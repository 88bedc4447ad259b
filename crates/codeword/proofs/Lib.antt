pub mod Finding
pub mod Verdicts
pub mod Extending
