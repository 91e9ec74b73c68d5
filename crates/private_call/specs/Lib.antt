pub mod Effects
pub mod Carried
pub mod Step
pub mod Running
pub mod NoReply
