pub mod Contexts
pub mod Tables
pub mod View
