pub mod Four
pub mod Signs
