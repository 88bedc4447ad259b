pub mod Frames
pub mod FrameBytes
pub mod FrameCode
pub mod FrameLines
pub mod FrameProgram
