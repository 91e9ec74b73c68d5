pub mod Sending
pub mod Numbers
pub mod Answer
