pub mod Flags
pub mod Instructions
pub mod Numbers
pub mod Replies
