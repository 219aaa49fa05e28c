pub mod Trace
pub mod Recording
pub mod TraceEnds
