pub mod Highest
pub mod Marks
pub mod Seeking
