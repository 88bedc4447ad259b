pub mod Ends
pub mod Told
