pub mod Parts
pub mod Sum
pub mod Nearest
