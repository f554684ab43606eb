pub mod KeyParts
pub mod BlockParts
pub mod Cuts
pub mod Standings
pub mod Steps
pub mod ByEntries
pub mod Fits
