-- Document 01, 'The frame program': what it writes for every input, and what the bytes mean that it keeps between two reads.
pub mod Frames
pub mod FrameClaims
