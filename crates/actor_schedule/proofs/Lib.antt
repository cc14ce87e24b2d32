pub mod Trays
pub mod Turns
pub mod Hands
