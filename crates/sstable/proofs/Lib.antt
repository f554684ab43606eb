pub mod History
pub mod Readings
