pub mod Causes
pub mod Asking
pub mod Rows
pub mod Found
