pub mod Stores
pub mod Lane
pub mod Step
pub mod Calls
pub mod Walks
