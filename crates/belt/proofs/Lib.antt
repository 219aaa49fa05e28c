pub mod Bits
pub mod Fed
pub mod OneBit
pub mod Listing
