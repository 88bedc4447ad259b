pub mod Reaching
pub mod Tripling
pub mod Walking
