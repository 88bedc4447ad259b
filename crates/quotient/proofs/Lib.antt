-- Facts that several proofs use.
pub mod Laws
pub mod Magnitudes
pub mod Products
pub mod Lanes
