pub mod Bounds
pub mod Drawing
pub mod Labels
pub mod Views
pub mod Waiting
