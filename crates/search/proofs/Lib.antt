pub mod Any
pub mod Refusals
pub mod Exploring
pub mod Starting
pub mod Laws
