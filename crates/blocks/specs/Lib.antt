pub mod Blocks
pub mod Highest
pub mod Tables
pub mod TablesView
pub mod View
