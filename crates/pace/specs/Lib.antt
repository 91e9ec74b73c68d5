pub mod Script
pub mod Played
