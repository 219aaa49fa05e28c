pub mod Finds
pub mod Seconds
