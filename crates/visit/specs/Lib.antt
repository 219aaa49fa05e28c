pub mod Held
pub mod OpenFrames
pub mod Standing
pub mod Turn
