pub mod Arranged
pub mod Transposed
