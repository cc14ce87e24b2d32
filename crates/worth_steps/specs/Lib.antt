pub mod Worth
pub mod Kept
pub mod Steps
pub mod Puts
pub mod inside
