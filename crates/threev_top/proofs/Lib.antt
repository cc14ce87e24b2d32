pub mod Ends
pub mod Builds
