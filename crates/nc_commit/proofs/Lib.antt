pub mod Once
pub mod Staging
