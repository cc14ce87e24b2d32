pub mod Auditing
pub mod Stops
