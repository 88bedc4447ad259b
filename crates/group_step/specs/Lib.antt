pub mod Frames
pub mod Lent
