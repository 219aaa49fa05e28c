pub mod BlockState
pub mod View
