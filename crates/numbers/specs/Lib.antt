pub mod Walked
pub mod Sides
