pub mod Laws
pub mod Timing
