pub mod Evaluators
pub mod Loops
pub mod Reads
pub mod View
