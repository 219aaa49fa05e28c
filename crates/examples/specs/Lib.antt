pub mod Questions
pub mod Scripts
pub mod Examples
