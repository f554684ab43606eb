pub mod Told
pub mod Parts
pub mod States
pub mod BlockFields
pub mod OpenTableFields
pub mod WriterFields
pub mod Standing
