pub mod Settings
pub mod Request
pub mod Announced
pub mod Timing
pub mod Meeting
