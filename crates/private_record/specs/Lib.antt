pub mod Phases
pub mod Formed
