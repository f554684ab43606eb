pub mod Told
pub mod HeaderBack
pub mod Headers
pub mod Blocks
pub mod Entries
pub mod Positions
pub mod Readers
