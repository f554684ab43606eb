pub mod Halves
pub mod Digits
pub mod Builds
pub mod Wholes
