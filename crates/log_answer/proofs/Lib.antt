pub mod LineByLine
pub mod Answering
pub mod Room
pub mod Parts
