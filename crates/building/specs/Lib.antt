pub mod Lines
pub mod Parts
pub mod Built
pub mod Whole
