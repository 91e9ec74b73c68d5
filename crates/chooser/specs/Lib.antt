pub mod Choice
pub mod NoChoice
