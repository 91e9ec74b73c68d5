pub mod Everywhere
pub mod Meets
