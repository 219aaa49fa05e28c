pub mod Edges
pub mod Entries
pub mod Kept
pub mod Resolving
