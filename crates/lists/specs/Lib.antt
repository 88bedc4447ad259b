pub mod Tabulated
pub mod Entries
