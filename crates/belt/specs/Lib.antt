pub mod Words
pub mod Sets
pub mod Plan
pub mod Edits
pub mod Listing
pub mod Counts
pub mod Soundness
