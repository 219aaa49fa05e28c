pub mod Newest
pub mod Linking
pub mod Tables
