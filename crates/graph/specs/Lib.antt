pub mod Meaning
pub mod Places
pub mod Among
