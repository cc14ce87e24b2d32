pub mod Parse
pub mod Getters
pub mod Fields
pub mod Plain
pub mod Steps
pub mod Equal
pub mod Ranges
