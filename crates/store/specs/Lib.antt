pub mod Edges
pub mod Links
pub mod View
pub mod Paths
pub mod Soundness
