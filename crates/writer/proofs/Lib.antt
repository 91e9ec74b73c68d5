pub mod Stores
pub mod Told
