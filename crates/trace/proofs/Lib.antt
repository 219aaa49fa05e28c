pub mod Heard
pub mod Overwriting
pub mod Recorded
pub mod Answering
