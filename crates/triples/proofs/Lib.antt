pub mod Items
pub mod Left
pub mod Writing
pub mod Counting
pub mod Lent
pub mod Splits
