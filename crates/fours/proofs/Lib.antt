pub mod Lanes
pub mod Parts
pub mod Rows
