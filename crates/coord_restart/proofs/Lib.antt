pub mod Parts
pub mod Resuming
