pub mod Stepping
pub mod Answers
pub mod Given
