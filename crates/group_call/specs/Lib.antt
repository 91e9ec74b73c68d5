pub mod Effects
pub mod Carried
pub mod Step
pub mod Hearing
