pub mod Refused
pub mod Frames
pub mod Kept
pub mod Explored
