pub mod States
pub mod Formed
