pub mod Costs
pub mod Judged
