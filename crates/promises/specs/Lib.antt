pub mod DemandsKept
pub mod OfContracts
pub mod OneAnswer
