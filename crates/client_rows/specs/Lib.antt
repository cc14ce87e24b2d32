pub mod Kept
pub mod Held
pub mod News
pub mod Changes
pub mod inside
