pub mod BlockReads
pub mod Fronts
