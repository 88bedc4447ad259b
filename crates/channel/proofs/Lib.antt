pub mod Calls
pub mod Costs
pub mod Finite
pub mod Rounding
